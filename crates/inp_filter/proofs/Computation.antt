-- The words that a worked example unfolds, in one place: `unfolding computing` opens all of them.
use Rattle.inp_model.specs.Filter.{last_press, is_down, last_release, given_all, left_by, is_eaten}
use Rattle.inp_model.specs.Filter.{given_after}
use Rattle.inp_filter.specs.Row.{let_through}
use Rattle.inp_filter.specs.Examples.{left_of_frames}

unfoldable pub computing : Type 0
unfolding last_press is_down last_release given_all left_by is_eaten let_through given_after left_of_frames
computing = Unit {0}
