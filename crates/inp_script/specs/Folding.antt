-- What is folded over a sight where the answers to the queries of a start or a synchronisation count once all of them were
-- accepted: a client's view, and a joystick's picture.
use Rattle.std.specs.Prelude.{if◌then◌else◌, List, [], ◌∷◌}
use Rattle.inp_model.specs.declared.step.Step.{Step}
use Rattle.inp_model.specs.declared.step.Step.TheVariants.{Open, Discard}
use Rattle.inp_model.specs.declared.reply.Reply.{Reply}
use Rattle.inp_model.specs.declared.reply.Reply.TheVariants.{Opened}
use Rattle.inp_model.specs.Description.{Description}
use Rattle.inp_model.specs.Reply.{is_accepted}
use Rattle.inp_reader.specs.Reader.{queries}

pub data Folding (A : Type 0) : Type 0 where
  -- it stands so
  settled : A → Folding A
  -- It stood as the first one, and stands as the second one with the answers to the queries that are left, if all are
  -- accepted.
  asking : A → A → List Step → Folding A

-- where no query is left the new one counts
abbrev pub asked_on : {A : Type 0} → A → A → List Step → Folding A
asked_on old new [] = settled new
asked_on old new (x ∷ xs) = asking old new (x ∷ xs)

-- Below, `fresh` says how it stands as the asking begins, and `told` what an accepted answer makes of it.

abbrev pub after_open_entry : {A : Type 0} → (A → A) → Description → A → Reply → Folding A
after_open_entry fresh d old (Opened at client ring) = asked_on old (fresh old) (queries d client)
after_open_entry fresh d old _ = settled old

-- an open that was accepted begins to ask for the whole state, and so does a discard
abbrev pub after_first_call : {A : Type 0} → (A → A) → Description → A → Step → Reply → Folding A
after_first_call fresh d old Open reply = after_open_entry fresh d old reply
after_first_call fresh d old (Discard client) reply =
    if is_accepted reply then asked_on old (fresh old) (queries d client) else settled old
after_first_call fresh d old _ reply = settled old

-- a query that was refused ends the asking
abbrev pub after_query : {A : Type 0} → (A → Step → Reply → A) → A → A → List Step → Step → Reply → Folding A
after_query told old new [] x reply = settled new
after_query told old new (y ∷ ys) x reply = if is_accepted reply then asked_on old (told new x reply) ys else settled old

abbrev pub after_call : {A : Type 0} → (A → A) → (A → Step → Reply → A) → Description → Folding A → Step → Reply → Folding A
after_call fresh told d (settled old) x reply = after_first_call fresh d old x reply
after_call fresh told d (asking old new xs) x reply = after_query told old new xs x reply
