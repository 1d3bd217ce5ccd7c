-- What each line adds to a sight tells of its calls.
use Rattle.std.proofs.Common.{◌≡◌, ℕ, false, List, [], ◌∷◌, ◌++◌, refl, append-nil, Option, Some}
use Rattle.inp_script.proofs.Common.{Stamped, Step, Reply, Description, Answer, Call, Command, Role, View}
use Rattle.inp_script.proofs.Common.{Mode, Next, ReaderState, stop_of, start_talk, next_talk, Talk, EndsWith}
use Rattle.inp_script.proofs.Common.{Sight, Stop, Waiting, mode_of, after_next, Job, after_call, end_talk}
use Rattle.inp_script.proofs.Common.{call_sight, line_talk, is_call_entry}
use Rattle.inp_model.specs.declared.reply.Reply.TheVariants.{Again as NothingVisible}
use Rattle.inp_reader.proofs.Meets.{Listed, listed-run, Meets, Any, meets-ends, meets-keeps, meets-weaker}
use Rattle.inp_reader.proofs.NextWalk.{sync-meets, Renewed, NextRules, next-meets, stop-cases}
use Rattle.inp_script.specs.declared.sight.Sight.TheVariants.{Took, Made, Again as AgainSight}
use Rattle.inp_script.proofs.LineWalk.{NotedBy, OfJob, OfTurn, OfGoing, AfterNext, read_so, LineRules}
use Rattle.inp_script.proofs.LineWalk.{start_job-meets, round-meets, turn-of, line-meets, end-meets}
use Rattle.inp_script.proofs.Told.{Tells, tells-none, tells-then, tells-event, tells-call, tells-noted}
use Rattle.inp_script.proofs.Told.{tells-again}
use Rattle.inp_script.proofs.JoyTold.{TellsOf, joy-told, told-after}
use Rattle.inp_script.proofs.JoyWalk.{joystick-meets}

entry-is : (x : Step) (reply : Reply) (sight new : List Sight) → new ≡ sight ++ call_sight x reply
    → new ≡ sight ++ (call_sight x reply ++ [])
entry-is x reply sight new e = rw (append-nil, ← e)

told-by : (j k : Job) (talk : Talk (Option Job)) (calls : List Call)
    → Meets Any Listed (OfJob (TellsOf j.sight)) [] talk → EndsWith talk calls (Some k)
    → Tells calls j.sight k.sight
told-by j k talk calls h ends =
    meets-ends Any Listed _ [] calls talk calls (Some k) h (listed-run [] calls) ends

module _ (old : List Sight) where
  -- what is told of them, from this sight on
  abbrev Told : List Call → List Sight → Type 0
  Told calls sight = Tells calls old sight

  told-entry : (calls : List Call) (sight : List Sight) (entry : Sight) → is_call_entry entry ≡ false
      → Told calls sight → Told calls (sight ++ entry ∷ [])
  told-entry calls sight entry e t =
      rw append-nil at (tells-then calls [] old sight _ t (tells-event sight entry e))

  -- one call more, as it is noted
  told-more : (sight new : List Sight) (before after : List Call) (x : Step) (a : Answer)
      → Listed before x a after → Tells (record { step = x; answer = a } ∷ []) sight new → Told before sight
      → Told after new
  told-more sight new before after x a is one t = told-after old sight new before _ after is t one

  told-noted : (u v : List Call × List Sight) (x : Step) (a : Answer) → Told u.0 u.1
      → NotedBy Listed u x a v → Told v.0 v.1
  told-noted u v x a t by =
      told-more u.1 v.1 u.0 v.0 x a by.0
      (tells-noted (record { step = x; answer = a } ∷ []) u.1 v.1 (entry-is x a.reply u.1 v.1 by.1)) t

  -- where the reader ends on this reply
  told-stop : (j : Job) (r : ReaderState) (u v : List Call × List Sight) (x : Step) (a : Answer)
      → Told u.0 u.1
      → NotedBy Listed u x a v → AfterNext (TellsOf old) v.0 (stop_of a.reply) (read_so j r v.1)
  told-stop j r u v x a t by =
      stop-cases (λ next. AfterNext (TellsOf old) v.0 next (read_so j r v.1)) a.reply
      (λ at ends is. (plain, again at ends is)) plain plain (λ at. plain)
    where
      plain : Told v.0 v.1
      plain = told-noted u v x a t by

      again : (at ends : ℕ) → a.reply ≡ NothingVisible at ends → Told v.0 (v.1 ++ AgainSight at ends ∷ [])
      again at ends is =
          let call : Call = record { step = x; answer = a } in
          told-more u.1 _ u.0 v.0 x a by.0
          (tells-again (call ∷ []) [] call u.1 v.1 at ends refl is (entry-is x a.reply u.1 v.1 by.1)) t

  -- A `next`

  -- of a reader, and of what it answers
  abbrev IsTold : List Call × List Sight → ReaderState → Type 0
  IsTold u r = Told u.0 u.1

  abbrev ToldNext : Job → List Call × List Sight → Next × ReaderState → Type 0
  ToldNext j u o = AfterNext (TellsOf old) u.0 o.0 (read_so j o.1 u.1)

  told-rules : (j : Job) (d : Description) (mode : Mode)
      → NextRules Any (NotedBy Listed) IsTold (ToldNext j) d mode
  told-rules j d mode = record {
    asks_read = λ s r t. tt;
    reads = λ s u r a t plain none by is. told-noted s u _ a t by;
    stops = λ s u r a t plain none by is. told-stop j r s u _ a t by;
    hands = λ s r taken rest t plain q is. told-entry s.0 s.1 (Took taken) refl t;
    loses = λ s r taken rest t plain q is. told-entry s.0 s.1 (Took taken) refl t;
    empty = λ s r t plain q. t;
    idles = λ s r t plain is. t;
    syncs = λ s r t needed.
        sync-meets Any _ (λ (u : List Call × List Sight) (view : View) (left : List Step). Told u.0 u.1)
        (Renewed IsTold (ToldNext j) r) d s r (record {
          asks = λ u view x xs k. tt;
          told = λ u v view x xs a k by is. told-noted u v x a k by;
          stopped = λ u v view x xs a k by is. told-stop j _ u v x a k by;
          whole = λ u view k. k;
        }) t;
    makes = λ s r event left t handing sync is. told-entry s.0 s.1 (Made event) refl t;
    made_all = λ s r t handing sync is. t;
    goes_on = λ s r t handing is. t;
  }

  -- A line

  told-call : (s t : List Call) (j : Job) (x : Step) (a : Answer) → TellsOf old s j → Listed s x a t
      → TellsOf old t (after_call j x a)
  told-call s t j x a i is = told-more j.sight _ s t x a is (tells-call x _ j.sight refl) i

  told-line : (d : Description) (role : Role) (command : Command) (wait : Option Waiting)
      → LineRules Listed (TellsOf old) (OfGoing (TellsOf old)) d role command wait
  told-line d role command wait = record {
    injects = λ e. told-call;
    calls = λ e one s t j x a is. told-call s t j x a;
    taps = λ e. told-call;
    starts = λ e s j i. start_job-meets Listed (TellsOf old) d s j
        (meets-keeps (NotedBy Listed) (λ (u : List Call × List Sight). Told u.0 u.1) (s, j.sight)
        (start_talk d j.reading) (λ u v x a t by. told-noted u v x a t by) i);
    begins = λ e s j left i. i;
    rounds = λ e s waits skips g none i.
        let mode : Mode = mode_of skips g.job.reading.phase in
        round-meets Listed (TellsOf old) (OfGoing (TellsOf old)) d s waits skips g
        (meets-weaker Any (NotedBy Listed) (ToldNext g.job)
        (λ (u : List Call × List Sight) (o : Next × ReaderState).
        OfTurn (TellsOf old) (OfGoing (TellsOf old)) u.0 (after_next waits g (o, u.1)))
        (s, g.job.sight) (next_talk d mode g.job.reading)
        (next-meets Any (NotedBy Listed) IsTold (ToldNext g.job) d mode (told-rules g.job d mode)
        (s, g.job.sight) g.job.reading i)
        (λ u o h. turn-of (TellsOf old) (λ t j stop k. k) u.0 waits g.left g.agains o.0
        (read_so g.job o.1 u.1) h));
    forces = λ e s j i. i;
    joys = λ e s j n none i. joystick-meets Listed (TellsOf old) d command (joy-told old d command) n s j i;
  }

-- the end of a source makes one call or none, and notes it
pub end-told : (stop : Option Stop) (j k : Job) (calls : List Call)
    → EndsWith (end_talk stop j) calls (Some k) → Tells calls j.sight k.sight
end-told stop j k calls h =
    told-by j k _ calls (end-meets Listed _ (told-call j.sight) stop [] j (tells-none j.sight)) h

-- each call of a line is noted where it is made, but for answers Again that are waited for
pub line-told : (role : Role) (d : Description) (streams : List (List Stamped)) (wait : Option Waiting)
    (n : ℕ) (command : Command) (j k : Job) (calls : List Call)
    → EndsWith (line_talk role d streams wait n command j) calls (Some k) → Tells calls j.sight k.sight
line-told role d streams wait n command j k calls h =
    told-by j k (line_talk role d streams wait n command j) calls
    (line-meets Listed (TellsOf j.sight) (OfGoing (TellsOf j.sight)) d role command wait
    (told-line j.sight d role command wait) streams n [] j (tells-none j.sight)) h
