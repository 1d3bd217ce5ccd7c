-- Each line keeps that a job's view is the fold of its sight.
use Rattle.std.proofs.Common.{◌≡◌, ℕ, Bool, true, List, [], ◌∷◌, ◌++◌, refl, ◌∙◌, Option, Some, None}
use Rattle.std.proofs.Common.{append-nil, append_assoc}
use Rattle.inp_script.proofs.Common.{Stamped, Step, Reply, Description, Command, Role, is_command_of}
use Rattle.inp_script.proofs.Common.{RecordView, View, Mode, Next, Started, ReaderState, next_talk, Talk}
use Rattle.inp_script.proofs.Common.{finish}
use Rattle.inp_script.proofs.Common.{EndsWith, Sight, Waiting, Job, ActorView, first_job, step_of, after_call}
use Rattle.inp_script.proofs.Common.{end_talk, noted, call_sight, again_sight, EvdevView, BeginsWith, Answer}
use Rattle.inp_script.proofs.Common.{accepted, IsAnswer, Call, HasPlace, Source, Client, Tap, Joy, AreCalls}
use Rattle.inp_script.proofs.Common.{line_talk, DoesLine}
use Rattle.inp_model.specs.declared.reply.Reply.TheVariants.{Again as Nothing}
use Rattle.inp_actors.specs.declared.command.Command.TheVariants.{Close, Grab, Ungrab, Revoke, Mask, Clock}
use Rattle.inp_actors.specs.declared.command.Command.TheVariants.{Write, SetAxis}
use Rattle.inp_recon.specs.View.{first_view}
use Rattle.inp_reader.specs.declared.next.Next.TheVariants.{Success, Dropped, Sync, Again}
use Rattle.inp_script.specs.Client.{LineProgress, Turn, start_job, start_ends, job_after_start, after_next}
use Rattle.inp_script.specs.Client.{mode_of}
use Rattle.inp_script.specs.Client.{next_round, forced}
use Rattle.inp_script.specs.JoyFold.{joy_fold}
use Rattle.inp_script.specs.Folding.{settled, after_first_call}
use Rattle.inp_script.specs.Fold.{client_fold, tap_fold, IsFolded, StaysFolded}
use Rattle.inp_script.proofs.ClientFolds.{client_fold-append, start-folds, next-folds, entries_of_next}
use Rattle.inp_script.proofs.ClientFolds.{placed-left}
use Rattle.inp_script.proofs.Folds.{Placed, placed-run, run-placed, ArePlaced, call-folds}
use Rattle.inp_script.proofs.JoyFolds.{joystick-folds}
use Rattle.inp_reader.proofs.Calls.{finished, split-and_then}
use Rattle.inp_script.proofs.Replies.{is_answer_has}
use Rattle.inp_model.proofs.Leaves.{BeginsWith-trans, HasPlace-longer, seen-kept}
use Rattle.inp_script.proofs.Told.{noted-back, noted_sight, memory_there}
use Rattle.inp_reader.proofs.Meets.{Meets, Any, AnyAnswer, meets-ends, meets-then, any-run}
use Rattle.inp_script.proofs.LineWalk.{job-ends-meet, noted-ends-meet, OfJob, OfTurn, OfGoing, AfterNext}
use Rattle.inp_script.proofs.LineWalk.{read_so, is_one_call, LineRules, turn-of, line-meets, end-meets}

abbrev OfRole : Role → Description → List Step → Unit {0} → Job → Type 0
OfRole role d h s j = IsFolded role d h j

abbrev GoesOnFolded : Role → Description → List Step → Unit {0} → Turn → Type 0
GoesOnFolded role d h = OfTurn (OfRole role d h) (OfGoing (OfRole role d h))

-- Lines

-- what is shown of the role that it is
at_role : (role r : Role) (d : Description) (h : List Step) (j k : Job) → role ≡ r
    → (IsFolded r d h j → IsFolded r d h k) → IsFolded role d h j → IsFolded role d h k
at_role role r d h j k e more fold = rw e (more (rw e at fold))

-- and of each job that a talk leaves
each_end : (role r : Role) (d : Description) (h : List Step) (s : Unit {0}) (j : Job)
    (talk : Talk (Option Job)) → role ≡ r
    → ((k : Job) (calls : List Call) → ArePlaced d h calls → EndsWith talk calls (Some k) → IsFolded r d h j
    → IsFolded r d h k) → IsFolded role d h j → Meets Any (Placed d h) (OfJob (OfRole role d h)) s talk
each_end role r d h s j talk e more fold =
    job-ends-meet (Placed d h) (OfRole role d h) s talk
    (λ t calls k run ends. at_role role r d h j k e (more k calls (run-placed d h s t calls run) ends) fold)

module _ (d : Description) where
  -- calls on an evdev have their places in each history that begins with what was seen
  pub are_placed : (a b : EvdevView) (h : List Step) (calls : List Call) → a.description ≡ d
      → BeginsWith b.seen h → AreCalls a b calls → ArePlaced d h calls
  unfolding AreCalls
  are_placed a b h [] same begins are = tt
  are_placed a b h (call ∷ calls) same begins are =
      let same_mid : are.0.description ≡ d = are.1.description ∙ same in
      let placed : HasPlace d are.0.seen call = rw same_mid at are.1.placed in (
        HasPlace-longer d are.0.seen h call
            (BeginsWith-trans are.0.seen b.seen h (seen-kept are.0 b calls are.2) begins) placed,
        are_placed are.0 b h calls same_mid begins are.2,
      )

  -- Single calls of clients, which ask for nothing and read nothing

  -- a step that tells nothing of the device
  pub record IsSilent (x : Step) : Type 0 where
    -- whatever its reply, the view of the fold stays
    pub alone : (view : View) (reply : Reply) → after_first_call (λ v. v) d view x reply ≡ settled view
    -- where it is accepted, it brings no events
    pub unread : (past : List Step) → (accepted d past x).events ≡ []

  -- a refused step brings no events, and a silent one none where it is accepted
  pub no_events : (past : List Step) (x : Step) (given : Answer) → IsSilent x → IsAnswer d past x given
      → given.events ≡ []
  no_events past x given silent is =
      is_answer_has (λ a. a.events ≡ []) d past x given is (λ refusal r. r.none) (λ none. silent.unread past)
      (λ opened lack not_in none. none)

  abbrev IsSilentIf : Option Step → Type 0
  IsSilentIf None = Unit {0}
  IsSilentIf (Some x) = IsSilent x

  silent_step : (client : ℕ) (command : Command) → is_command_of Client command ≡ true
      → is_one_call command ≡ true → IsSilentIf (step_of client command)
  silent_step client Close of_role one = record { alone = λ view reply. refl; unread = λ past. refl }
  silent_step client Grab of_role one = record { alone = λ view reply. refl; unread = λ past. refl }
  silent_step client Ungrab of_role one = record { alone = λ view reply. refl; unread = λ past. refl }
  silent_step client Revoke of_role one = record { alone = λ view reply. refl; unread = λ past. refl }
  silent_step client (Mask kind word bits) of_role one =
      record { alone = λ view reply. refl; unread = λ past. refl }
  silent_step client (Clock clock moment) of_role one =
      record { alone = λ view reply. refl; unread = λ past. refl }
  silent_step client (Write moment kind code value) of_role one =
      record { alone = λ view reply. refl; unread = λ past. refl }
  silent_step client (SetAxis code info) of_role one =
      record { alone = λ view reply. refl; unread = λ past. refl }
  silent_step client command of_role one = absurd cc

  module _ (h : List Step) where
    -- Clients

    abbrev pub IsClientFold : View → Job → Type 0
    IsClientFold v j = client_fold d h (settled v) j.sight ≡ settled j.reading.view

    -- the sight so far folds to the view, so what is added is folded from the view
    pub folds-on : (v : View) (j : Job) (more : List Sight) → IsClientFold v j
        → client_fold d h (settled v) (j.sight ++ more) ≡ client_fold d h (settled j.reading.view) more
    folds-on v j more fold = rw (client_fold-append, fold)

    pub start_job-folds : (v : View) (j k : Job) (calls : List Call) → ArePlaced d h calls
        → EndsWith (start_job d j) calls (Some k) → IsClientFold v j → IsClientFold v k
    unfolding start_job
    start_job-folds v j k calls placed ends fold =
        let next : (Started × ReaderState) × List Sight → Talk (Option Job) = λ o. finish (start_ends o) in
        let p = split-and_then _ next calls (Some k) ends in
        let f = finished (start_ends p.between) (Some k) p.later p.later_ends in
        let b = noted-back _ j.sight p.first p.between p.first_ends in
        let same : job_after_start p.between.0.0 p.between.0.1 p.between.1 ≡ k = memory_there _ _ k f.1 in
        let first : ArePlaced d h p.first = placed-left d h p.first p.later (rw p.calls_are at placed) in
        cc (
          same,
          b.1,
          folds-on v j (noted_sight p.first) fold,
          start-folds d h j.reading p.between.0.1 p.between.0.0 p.first first b.0,
          same,
        )

    -- no entry
    bare : (v : View) (j : Job) → client_fold d h (settled v) (j.sight ++ []) ≡ settled j.reading.view
        → IsClientFold v j
    bare v j fold = rw (← append-nil j.sight) fold

    after-fold : (next : Next) (j : Job)
        → client_fold d h (settled (first_view d)) (j.sight ++ entries_of_next next) ≡ settled j.reading.view
        → AfterNext (OfRole Client d h) tt next j
    unfolding client_fold
    after-fold (Success taken) j fold = fold
    after-fold (Dropped taken) j fold = fold
    after-fold (Sync event) j fold = fold
    after-fold (Again at ends) j fold =
        let none : IsClientFold (first_view d) j = bare (first_view d) j fold in
        (none, folds-on _ j _ none)
    after-fold next j fold = bare (first_view d) j fold

    round-fold : (s : Unit {0}) (wait : Option Waiting) (skips : Bool)
        (g : LineProgress) → IsFolded Client d h g.job
        → Meets Any (Placed d h) (GoesOnFolded Client d h) s (next_round d wait skips g)
    unfolding next_round
    round-fold s wait skips g fold =
        let mode : Mode = mode_of skips g.job.reading.phase in
        let talk : Talk (Next × ReaderState) = next_talk d mode g.job.reading in
        let G : Unit {0} → Turn → Type 0 = GoesOnFolded Client d h in
        let Q : Unit {0} → (Next × ReaderState) × List Sight → Type 0 = λ t o. G t (after_next wait g o) in
        meets-then Any (Placed d h) Q G s (noted talk g.job.sight) (λ o. finish (after_next wait g o))
        (noted-ends-meet (Placed d h) Q s g.job.sight talk (λ t calls o run ends.
        let sight : List Sight = g.job.sight ++ noted_sight calls in
        let entries : List Sight = entries_of_next o.0 in
        turn-of (OfRole Client d h) (λ u k stop i. i) t wait g.left g.agains o.0 (read_so g.job o.1 sight)
        (after-fold o.0 (read_so g.job o.1 sight)
        (rw (append_assoc, folds-on)
        (next-folds d h mode g.job.reading o.1 o.0 calls (run-placed d h s t calls run) ends)))))
        (λ t o k. k)

    silent-entry : (v : View) (x : Step) (reply : Reply) → IsSilent x
        → client_fold d h (settled v) (call_sight x reply ++ again_sight reply) ≡ settled v
    unfolding client_fold
    silent-entry v x (Nothing at n) silent = refl
    silent-entry v x reply silent = silent.alone v reply

    -- a silent call changes neither the view nor the fold, and reads nothing
    pub silent-fold : (v : View) (j : Job) (x : Step) (a : Answer) → IsSilent x
        → HasPlace d h (record { step = x; answer = a }) → IsClientFold v j
        → IsClientFold v (after_call j x a)
    silent-fold v j x a silent placed fold =
        let none : a.events ≡ [] = no_events _ x a silent placed.exact in
        rw (none, append-nil, folds-on) (silent-entry j.reading.view x a.reply silent)

fold-rules : (role : Role) (d : Description) (h : List Step) (command : Command) (wait : Option Waiting)
    → is_command_of role command ≡ true
    → LineRules (Placed d h) (OfRole role d h) (OfGoing (OfRole role d h)) d role command wait
fold-rules role d h command wait of_role = record {
  injects = λ e s t j x a fold there. at_role role Source d h j _ e (λ f. f) fold;
  calls = λ e one s t j x a is fold there.
      let silent : IsSilent d x = rw is at (silent_step d j.reading.client command (of_this Client e) one) in
      at_role role Client d h j _ e (silent-fold d h _ j x a silent there) fold;
  taps = λ e s t j x a fold there.
      at_role role Tap d h j _ e (call-folds d h _ j _ x _ there refl refl) fold;
  starts = λ e s j fold. each_end role Client d h s j _ e (λ k calls. start_job-folds d h _ j k calls) fold;
  begins = λ e s j left fold. fold;
  rounds = λ e s waits skips g none fold.
      rw e
      (round-fold d h s waits skips g (rw e at fold));
  forces = λ e s j fold. at_role role Client d h j (forced j) e (λ f. f) fold;
  joys = λ e s j n none fold.
      each_end role Joy d h s j _ e (λ k calls. joystick-folds d h n command j k calls (of_this Joy e)) fold;
}
  where
    of_this : (r : Role) → role ≡ r → is_command_of r command ≡ true
    of_this r e = rw e at of_role

-- a line, whoever does it
pub line_talk-folds : (role : Role) (d : Description) (h : List Step) (streams : List (List Stamped))
    (wait : Option Waiting) (n : ℕ) (command : Command) (j k : Job) (calls : List Call)
    → is_command_of role command ≡ true → ArePlaced d h calls
    → EndsWith (line_talk role d streams wait n command j) calls (Some k) → IsFolded role d h j
    → IsFolded role d h k
line_talk-folds role d h streams wait n command j k calls of_role placed ends fold =
    meets-ends Any (Placed d h) (OfJob (OfRole role d h)) tt tt
    (line_talk role d streams wait n command j) calls (Some k)
    (line-meets (Placed d h) (OfRole role d h) (OfGoing (OfRole role d h)) d role command wait
    (fold-rules role d h command wait of_role) streams n tt j fold)
    (placed-run d h calls placed) ends

-- the calls of a line have their places in the history, and each changes view and fold alike
pub line-folds : (a b : EvdevView) (actor : ActorView) (r : RecordView) (wait : Option Waiting) (number : ℕ)
    (new : Job) → a.description ≡ actor.description → (does : DoesLine a b actor r wait number new)
    → is_command_of actor.role does.line.command ≡ true
    → StaysFolded actor.role actor.description b actor.job new
line-folds a b actor r wait number new same does of_role = λ h begins fold.
    let placed : ArePlaced actor.description h does.holds.calls =
    are_placed actor.description a b h does.holds.calls same begins does.holds.are_calls in
    line_talk-folds actor.role actor.description h r.streams wait does.rounds does.line.command actor.job new
    does.holds.calls of_role placed does.holds.talk_ends fold

-- the end of a source
pub end-folds : (b : EvdevView) (role : Role) (d : Description) (old new : Job) (calls : List Call)
    → role ≡ Source → EndsWith (end_talk old.stop old) calls (Some new) → StaysFolded role d b old new
end-folds b role d old new calls source ends =
    let Same : Unit {0} → Job → Type 0 = λ s j. j.reading ≡ old.reading in
    let same : new.reading ≡ old.reading =
    meets-ends Any AnyAnswer (OfJob Same) tt tt _ calls (Some new)
    (end-meets AnyAnswer Same (λ s t j x a i any. i) old.stop tt old refl) (any-run calls) ends in
    rw source (λ h begins fold. rw same fold)

-- before its first line
first_folded : (role : Role) (d : Description) (h : List Step) → IsFolded role d h (first_job role d)
unfolding client_fold tap_fold joy_fold
first_folded Source d h = refl
first_folded _ d h = refl

-- before the first line the sight is empty, and the view is the first one
pub is_folded-first : (role : Role) (d : Description) (h : List Step) (j : Job) → j ≡ first_job role d
    → IsFolded role d h j
is_folded-first role d h j same = rw same (first_folded role d h)
