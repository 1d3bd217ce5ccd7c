-- When nothing was kept from a client and no axis was described anew (docs/READER.md, "Faithful views").
use Rattle.std.specs.Prelude.{ℕ, suc, Bool, true, ◌&&◌, ◌||◌, not, if◌then◌else◌, nat_eq, nat_le, List, [], ◌∷◌, ◌++◌, length, filter}
use Rattle.std.specs.List.{list_all}
use Rattle.inp_model.specs.declared.event.TheConstants.{EV_KEY, EV_ABS, EV_SW, EV_LED}
use Rattle.inp_model.specs.declared.event.Event.{Event}
use Rattle.inp_model.specs.declared.step.Step.{Step}
use Rattle.inp_model.specs.RawItem.{Frame}
use Rattle.inp_model.specs.Description.{Description}
use Rattle.inp_model.specs.Step.{is_description}
use Rattle.inp_model.specs.Past.{holder, is_other, admits}
use Rattle.inp_model.specs.Frame.{frames_of_step}
use Rattle.inp_model.specs.Left.{Eats, is_left}
use Rattle.inp_model.specs.Queue.{is_empty}
use Rattle.inp_recon.specs.Synchronised.{is_start}

-- the types of the events that a view follows
abbrev pub is_viewed : ℕ → Bool
is_viewed kind = nat_eq kind EV_KEY || nat_eq kind EV_SW || nat_eq kind EV_LED || nat_eq kind EV_ABS

-- of these events of a frame, the first of which has this index, each that is of these types is left and is admitted
abbrev pub all_come : (ℕ → Bool) → (Event → Bool) → ℕ → List Event → Bool
all_come eats admits k [] = true
all_come eats admits k (e ∷ es) =
    let rest = all_come eats admits (suc k) es in
    (not (is_viewed e.kind) || (is_left eats k e && admits e)) && rest

-- When the frame ended no other client held the grab, and its events of these types were left, and admitted by the
-- client's masks.
abbrev pub is_whole_for : Eats → ℕ → Frame → Bool
is_whole_for eats client f =
    not (is_other (holder f.before) client) && all_come (eats f) (admits f.before client) 0 f.cut.events

-- the frames since the client's last start, oldest first
unfoldable pub frames_since_start : Description → List Step → ℕ → List Frame
frames_since_start d [] client = []
frames_since_start d (x ∷ past) client =
    let before = frames_since_start d past client in
    if is_start past client x then [] else before ++ frames_of_step d past x

-- those of them up to this frame and with it: the ones that ended no later, counted in raw events and descriptions
abbrev pub frames_up_to : Frame → List Frame → List Frame
frames_up_to f fs = filter (λ g. nat_le (length g.cut.until) (length f.cut.until)) fs

-- the steps since the last one that ended a frame, newest first
unfoldable pub steps_since_frame : Description → List Step → List Step
steps_since_frame d [] = []
steps_since_frame d (x ∷ past) =
    let before = steps_since_frame d past in
    if is_empty (frames_of_step d past x) then x ∷ before else []

-- The steps since the last frame before the client's last start. A description among those before the start may be undone
-- in the client's view by events that waited in the batch at the start.
unfoldable pub steps_since_frame_before_start : Description → List Step → ℕ → List Step
steps_since_frame_before_start d [] client = []
steps_since_frame_before_start d (x ∷ past) client =
    let before = steps_since_frame_before_start d past client in
    x ∷ (if is_start past client x then steps_since_frame d past else before)

-- Since the client's start, up to this frame, each frame was whole for it; and no axis was described anew since the last
-- frame before the start, up to this one.
unfoldable pub is_undisturbed : Eats → Description → List Step → ℕ → Frame → Bool
is_undisturbed eats d past client f =
    list_all (is_whole_for eats client) (frames_up_to f (frames_since_start d past client))
    && list_all (λ x. not (is_description x)) (steps_since_frame_before_start d f.before client)
