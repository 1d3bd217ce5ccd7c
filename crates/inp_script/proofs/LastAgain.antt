-- A `next` that answers Again made a call, and the last of its calls was answered so.
use Rattle.std.proofs.Common.{◌≡◌, ℕ, List, [], ◌∷◌, ◌++◌, refl, sym, append_assoc, Option, Some, None}
use Rattle.inp_script.proofs.Common.{Step, Reply, Description, Answer, Call, View, Mode, Next, ReaderState}
use Rattle.inp_script.proofs.Common.{stop_of, next_talk, EndsWith}
use Rattle.inp_model.specs.declared.reply.Reply.TheVariants.{Again as NothingVisible}
use Rattle.inp_reader.specs.declared.next.Next.TheVariants.{Again}
use Rattle.inp_reader.proofs.Meets.{Any, Runs}
use Rattle.inp_reader.proofs.NextWalk.{sync-meets, Renewed, NextRules, next-ends, stop-cases}

-- the last of these calls was answered so
pub record EndsIn (calls : List Call) (reply : Reply) : Type 0 where
  -- the calls before the last one
  pub front : List Call
  -- the last call
  pub last : Call
  -- they are all the calls
  pub whole : calls ≡ front ++ last ∷ []
  -- the last call has that reply
  pub replied : last.answer.reply ≡ reply

-- calls in front leave the last one last
pub ends_in-behind : (before calls : List Call) (reply : Reply) → EndsIn calls reply
    → EndsIn (before ++ calls) reply
ends_in-behind before calls reply e = record {
  front = before ++ e.front;
  last = e.last;
  whole = rw e.whole (sym (append_assoc before e.front (e.last ∷ [])));
  replied = e.replied;
}

ends_in-one : (call : Call) (reply : Reply) → call.answer.reply ≡ reply → EndsIn (call ∷ []) reply
ends_in-one call reply h = record { front = []; last = call; whole = refl; replied = h }

-- only an answer Again stops so
stopped_again : (reply : Reply) (at ends : ℕ) → stop_of reply ≡ Again at ends → reply ≡ NothingVisible at ends
stopped_again reply at ends =
    stop-cases (λ next. next ≡ Again at ends → reply ≡ NothingVisible at ends) reply (λ place n is h. cc)
    (λ h. cc) (λ h. cc) (λ place h. cc)

-- The last reply of calls, by what was the last one before them

abbrev last_reply : Option Reply → List Call → Option Reply
last_reply before [] = before
last_reply before (call ∷ calls) = last_reply (Some call.answer.reply) calls

abbrev Replies : Option Reply → Step → Answer → Option Reply → Type 0
Replies before x a after = after ≡ Some a.reply

replies-run : (before : Option Reply) (calls : List Call)
    → Runs Replies before calls (last_reply before calls)
unfolding Runs
replies-run before [] = refl
replies-run before (call ∷ calls) = (Some call.answer.reply, refl, replies-run _ calls)

ends_in-last : (call : Call) (calls : List Call) (reply : Reply)
    → last_reply (Some call.answer.reply) calls ≡ Some reply → EndsIn (call ∷ calls) reply
ends_in-last call [] reply h = ends_in-one call reply cc
ends_in-last call (next ∷ calls) reply h =
    ends_in-behind (call ∷ []) _ reply (ends_in-last next calls reply h)

ends_in-any : (calls : List Call) (reply : Reply) → last_reply None calls ≡ Some reply → EndsIn calls reply
ends_in-any [] reply h = absurd cc
ends_in-any (call ∷ calls) reply h = ends_in-last call calls reply h

-- a `next` that answers so was answered so last
abbrev EndsAgain : Option Reply → Next × ReaderState → Type 0
EndsAgain last o = (at ends : ℕ) → o.0 ≡ Again at ends → last ≡ Some (NothingVisible at ends)

again-rules : (d : Description) (mode : Mode)
    → NextRules Any Replies (λ (last : Option Reply) (r : ReaderState). Unit {0}) EndsAgain d mode
again-rules d mode = record {
  asks_read = λ s r i. tt;
  reads = λ s t r a i plain none by is. tt;
  stops = λ s t r a i plain none by is at ends e. rw (by, stopped_again a.reply at ends e);
  hands = λ s r taken rest i plain q is at ends e. cc;
  loses = λ s r taken rest i plain q is at ends e. cc;
  empty = λ s r i plain q at ends e. cc;
  idles = λ s r i plain is at ends e. cc;
  syncs = λ s r i needed.
      sync-meets Any Replies (λ (t : Option Reply) (view : View) (left : List Step). Unit {0})
      (Renewed (λ (last : Option Reply) (o : ReaderState). Unit {0}) EndsAgain r) d s r (record {
        asks = λ u view x xs j. tt;
        told = λ u t view x xs a j by is. tt;
        stopped = λ u t view x xs a j by is at ends e. rw (by, stopped_again a.reply at ends e);
        whole = λ u view j. tt;
      }) tt;
  makes = λ s r event left i handing sync is at ends e. cc;
  made_all = λ s r i handing sync is at ends e. cc;
  goes_on = λ s r i handing is. tt;
}

-- a `next` stops as Again only by a call that was answered Again, and asks nothing after it
pub next-last : (d : Description) (mode : Mode) (r s : ReaderState) (calls : List Call) (at ends : ℕ)
    → EndsWith (next_talk d mode r) calls (Again at ends, s) → EndsIn calls (NothingVisible at ends)
next-last d mode r s calls at ends h =
    ends_in-any calls _
    (next-ends Any Replies (λ (last : Option Reply) (o : ReaderState). Unit {0}) EndsAgain d mode
    (again-rules d mode) None _ r calls _ tt (replies-run None calls) h at ends refl)
