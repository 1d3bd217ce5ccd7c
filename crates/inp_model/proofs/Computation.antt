-- The words that a worked example unfolds, in one place: `unfolding computing` opens all of them.
use Rattle.inp_model.specs.State.{key_down, turned_on, repeat_setting, axis_info, axis_value, staged, cell}
use Rattle.inp_model.specs.Passed.{announced}
use Rattle.inp_model.specs.Past.{opens, is_open, is_revoked, holder, clock_of, mask_bit, is_inhibited, ends}
use Rattle.inp_model.specs.Cut.{pending, cuts, at_frame}
use Rattle.inp_model.specs.Raw.{raw_and_timer, raw, timer, raw_of_step}
use Rattle.inp_model.specs.Filter.{last_press, is_down, last_release, given_all, left_by, is_eaten}
use Rattle.inp_model.specs.Filter.{given_after}
use Rattle.inp_model.specs.Left.{given_in, eaten_by, eaten}
use Rattle.inp_model.specs.Queue.{queue_with}

unfoldable pub computing : Type 0
unfolding key_down turned_on repeat_setting axis_info axis_value staged cell announced opens is_open
    is_revoked holder clock_of mask_bit is_inhibited ends pending cuts at_frame raw_and_timer raw timer
    raw_of_step last_press is_down last_release given_all left_by is_eaten given_after given_in eaten_by
    eaten queue_with
computing = Unit {0}
