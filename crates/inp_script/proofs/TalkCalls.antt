-- Calls on an evdev that are those of a talk, or its first ones: one call, and one part of a talk after
-- another.
use Rattle.std.proofs.Common.{◌≡◌, [], ◌∷◌, ◌++◌, refl}
use Rattle.inp_model.specs.Leaves.{IsLeft}
use Rattle.inp_script.proofs.Common.{Step, Answer, Holds, Begins, EvdevView, IsCall, IsStepMade, AreCalls}
use Rattle.inp_script.proofs.Common.{Talk, finish, ask, and_then, LeadsTo}
use Rattle.inp_model.proofs.Leaves.{AreCalls-append, calls-left}
use Rattle.inp_reader.proofs.Talks.{LeadsTo-append, LeadsTo-and_then}

-- no call
pub holds-nothing : {A : Type 0} (told : EvdevView) (talk : Talk A) (result : A) → talk ≡ finish result
    → Holds told told talk result
unfolding LeadsTo AreCalls
holds-nothing told talk result h = record { calls = []; talk_ends = h; are_calls = refl }

-- one call, and then nothing more
pub holds-one : {A : Type 0} (before after : EvdevView) (x : Step) (answer : Answer) (rest : Answer → Talk A)
    (result : A) → IsCall before after (record { step = x; answer = answer }) → rest answer ≡ finish result
    → Holds before after (ask x rest) result
unfolding LeadsTo AreCalls
holds-one before after x answer rest result call h = record {
  calls = record { step = x; answer = answer } ∷ [];
  talk_ends = (refl, h);
  are_calls = (after, call, refl);
}

-- a talk, and then the one that its result says
pub holds-then : {A B : Type 0} (before between after : EvdevView) (talk : Talk A) (next : A → Talk B) (a : A)
    (b : B) → Holds before between talk a → Holds between after (next a) b
    → Holds before after (and_then talk next) b
holds-then before between after talk next a b s t = record {
  calls = s.calls ++ t.calls;
  talk_ends =
      LeadsTo-append (and_then talk next) (next a) (finish b) s.calls t.calls
      (LeadsTo-and_then talk (finish a) next s.calls s.talk_ends) t.talk_ends;
  are_calls = AreCalls-append before between after s.calls t.calls s.are_calls t.are_calls;
}

-- all calls of a talk are all those of an equal one
pub holds-same : {A : Type 0} (before after : EvdevView) (talk same : Talk A) (result : A) → talk ≡ same
    → Holds before after talk result → Holds before after same result
holds-same {A = A} before after talk same result h s = rw h at s

-- The first calls of a talk

-- none of them
pub begins-none : {A : Type 0} (told : EvdevView) (talk : Talk A) → Begins told told talk
unfolding LeadsTo AreCalls
begins-none told talk = record { calls = []; rest = talk; leads = refl; are_calls = refl }

-- the first one
pub begins-one : {A : Type 0} (before after : EvdevView) (x : Step) (rest : Answer → Talk A)
    → IsStepMade before after x → Begins before after (ask x rest)
unfolding LeadsTo AreCalls
begins-one before after x rest made = record {
  calls = record { step = x; answer = made.answer } ∷ [];
  rest = rest made.answer;
  leads = (refl, refl);
  are_calls = (after, made.is_call, refl);
}

-- all those of a talk
pub holds-begins : {A : Type 0} (before after : EvdevView) (talk : Talk A) (result : A)
    → Holds before after talk result → Begins before after talk
holds-begins before after talk result s =
    record { calls = s.calls; rest = finish result; leads = s.talk_ends; are_calls = s.are_calls }

-- those of a talk, which another one follows
pub begins-first : {A B : Type 0} (before after : EvdevView) (talk : Talk A) (next : A → Talk B)
    → Begins before after talk → Begins before after (and_then talk next)
begins-first before after talk next s =
    record {
      calls = s.calls;
      rest = and_then s.rest next;
      leads = LeadsTo-and_then talk s.rest next s.calls s.leads;
      are_calls = s.are_calls;
    }

-- all those of such a talk
pub begins-then : {A B : Type 0} (before after : EvdevView) (talk : Talk A) (next : A → Talk B) (a : A)
    → Holds before after talk a → Begins before after (and_then talk next)
begins-then before after talk next a s = begins-first before after talk next
    (holds-begins before after talk a s)

-- the first calls of a talk are the first ones of an equal one
pub begins-same : {A : Type 0} (before after : EvdevView) (talk same : Talk A) → talk ≡ same
    → Begins before after talk → Begins before after same
begins-same {A = A} before after talk same h s = rw h at s

-- what such calls leave
pub begins-left : {A : Type 0} (before after : EvdevView) (talk : Talk A) → Begins before after talk
    → IsLeft before after
begins-left before after talk s = calls-left before after s.calls s.are_calls
