-- A call that injects many events is calls, one after another.
use Rattle.std.proofs.Common.{◌≡◌, ℕ, zero, suc, ◌+◌, ◌<◌, ◌≤◌, Bool, true, false, if◌then◌else◌, nat_lt}
use Rattle.std.proofs.Common.{nat_le, List, [], ◌∷◌, ◌++◌, length, map, take, reverse, refl, sym, ap, subst}
use Rattle.std.proofs.Common.{◌∙◌, arith, inl, Option, Some, None, append_assoc, append-nil, length-append}
use Rattle.std.specs.List.{range_with_len}
use Rattle.std.proofs.lemmas.List.{length-reverse, reverse-reverse, reverse-append, length-map}
use Rattle.std.proofs.lemmas.List.{length-take-le}
use Rattle.std.proofs.lemmas.Bool.Decides.{nat_tests}
use Rattle.inp_model.specs.declared.limits.TheConstants.{LOG_MAX}
use Rattle.inp_model.specs.declared.stamped.Stamped.{Stamped}
use Rattle.inp_model.specs.declared.injected.Injected.{Injected}
use Rattle.inp_model.specs.declared.step.Step.{Step}
use Rattle.inp_model.specs.declared.reply.Reply.TheVariants.{Done, Refused}
use Rattle.inp_model.specs.declared.reply.Refusal.TheVariants.{LogFull}
use Rattle.inp_model.specs.Description.{Description}
use Rattle.inp_model.specs.DeviceView.{DeviceView, evdev_view}
use Rattle.inp_model.specs.History.{IsHistory}
use Rattle.inp_model.specs.Reply.{IsAnswer, is_full, alone}
use Rattle.inp_model.specs.Run.{Call}
use Rattle.inp_model.specs.Step.{is_inject}
use Rattle.inp_model.specs.Evdev.{EvdevView, BeginsWith, TurnsRise, TurnsStand, IsCall, own_after}
use Rattle.inp_model.specs.Evdev.{agains_after}
use Rattle.inp_model.specs.Leaves.{AreCalls}
use Rattle.inp_model.specs.Injection.{inject_of, entered_count, history_with, IsInjectAll, entered_call}
use Rattle.inp_model.specs.Injection.{full_call, calls_of}
use Rattle.inp_model.proofs.Leaves.{BeginsWith-trans}
use Rattle.inp_model.proofs.Told.{called_by, turned}

-- What a history is

-- what begins a history is one
pub past-shorter : (d : Description) (later past : List Step) → IsHistory d (later ++ past) → IsHistory d past
past-shorter d [] past h = h
past-shorter d (x ∷ later) past h = past-shorter d later past h.0

pub history-shorter : (d : Description) (history more : List Step) → IsHistory d (reverse (history ++ more))
    → IsHistory d (reverse history)
history-shorter d history more h =
    past-shorter d (reverse more) (reverse history) (subst (IsHistory d) (reverse-append history more) h)

-- The answers to one event

full_by : (b : Bool) (n limit : ℕ) → nat_lt n limit ≡ b → nat_le limit n ≡ (if b then false else true)
full_by true n limit h = grind (arith, nat_tests, h)
full_by false n limit h = grind (arith, nat_tests, h)

answer-entered : (d : Description) (past : List Step) (stamped : Stamped)
    → nat_lt (length past) d.log_limit ≡ true
    → IsAnswer d past (inject_of stamped) (alone (Done (length past)))
answer-entered d past stamped h =
    let room : is_full d past ≡ false = full_by true (length past) d.log_limit h in
    inl (sym (rw room))

answer-full : (d : Description) (past : List Step) (stamped : Stamped)
    → nat_lt (length past) d.log_limit ≡ false
    → IsAnswer d past (inject_of stamped) (alone (Refused (length past) LogFull))
answer-full d past stamped h =
    let full : is_full d past ≡ true = full_by false (length past) d.log_limit h in
    inl (sym (rw full))

-- One event

TurnsStand-refl : (turns : Option ℕ) → TurnsStand turns turns
TurnsStand-refl None = tt
TurnsStand-refl (Some n) = omega arith

TurnsStand-rise : (m n : Option ℕ) → TurnsRise m n → TurnsStand m n
TurnsStand-rise None n h = tt
TurnsStand-rise (Some m) None h = h
TurnsStand-rise (Some m) (Some n) h = omega (arith, h)

-- what is seen behind one event more
abbrev with_event : EvdevView → Stamped → EvdevView
with_event v stamped = record v { seen = v.seen ++ inject_of stamped ∷ []; own = v.own ++ length v.seen ∷ [] }

entered-is_call : (v : EvdevView) (stamped : Stamped) → nat_lt (length v.seen) v.description.log_limit ≡ true
    → IsHistory v.description (reverse v.seen)
    → IsCall v (with_event v stamped) (entered_call (length v.seen) stamped)
entered-is_call v stamped room h =
    let d : Description = v.description in
    let x : Step = inject_of stamped in
    let past : List Step = reverse v.seen in
    let long : length past ≡ length v.seen = length-reverse v.seen in
    let exact : IsAnswer d past x (alone (Done (length v.seen))) =
    rw (← long) (answer-entered d past stamped (rw long room)) in
    let c = called_by d past 0 x (alone (Done (length v.seen))) true refl (sym long) exact h in
    let now : reverse (x ∷ past) ≡ v.seen ++ x ∷ [] = rw (turned, reverse-reverse) in
    record {
      description = refl;
      tie = refl;
      seen = (x ∷ [], refl);
      fresh = omega arith;
      long = omega (arith, length-append v.seen (x ∷ []));
      placed = rw now at c.placed;
      own = refl;
      agains = refl;
      turns = TurnsStand-refl v.turns;
      rises = λ e. absurd (cc e);
      history = rw now at c.history;
    }

full-is_call : (v : EvdevView) (stamped : Stamped) → nat_lt (length v.seen) v.description.log_limit ≡ false
    → IsHistory v.description (reverse v.seen) → IsCall v v (full_call (length v.seen) stamped)
full-is_call v stamped full h =
    let d : Description = v.description in
    let x : Step = inject_of stamped in
    let past : List Step = reverse v.seen in
    let long : length past ≡ length v.seen = length-reverse v.seen in
    let exact : IsAnswer d past x (alone (Refused (length v.seen) LogFull)) =
    rw (← long) (answer-full d past stamped (rw long full)) in
    let c = called_by d past 0 x (alone (Refused (length v.seen) LogFull)) false refl (sym long) exact h in
    record {
      description = refl;
      tie = refl;
      seen = ([], sym (append-nil v.seen));
      fresh = omega arith;
      long = refl;
      placed = rw reverse-reverse at c.placed;
      own = refl;
      agains = refl;
      turns = TurnsStand-refl v.turns;
      rises = λ e. absurd (cc e);
      history = h;
    }

TurnsStand-trans : (k m n : Option ℕ) → TurnsStand k m → TurnsStand m n → TurnsStand k n
TurnsStand-trans None m n h e = tt
TurnsStand-trans (Some k) None n h e = absurd h
TurnsStand-trans (Some k) (Some m) None h e = e
TurnsStand-trans (Some k) (Some m) (Some n) h e = omega (arith, h, e)

length-begins : (xs ys : List Step) → BeginsWith xs ys → length xs ≤ length ys
length-begins xs ys h = omega (arith, ap length h.1, length-append xs h.0)

-- All of them, from the history found on

-- what is seen behind so many of these events
abbrev with_events : EvdevView → ℕ → List Stamped → EvdevView
with_events v count events =
    record v { seen = history_with v.seen count events; own = v.own ++ range_with_len (length v.seen) count }

with_events-none : (v : EvdevView) (events : List Stamped) → with_events v 0 events ≡ v
with_events-none v events = λ i. record v { seen = append-nil v.seen i; own = append-nil v.own i }

with_events-more : (v : EvdevView) (stamped : Stamped) (count : ℕ) (events : List Stamped)
    → with_events (with_event v stamped) count events ≡ with_events v (suc count) (stamped ∷ events)
with_events-more v stamped count events =
    let x : Step = inject_of stamped in
    let later : List Step = map inject_of (take count events) in
    let next : length (v.seen ++ x ∷ []) ≡ length v.seen + 1 = length-append v.seen (x ∷ []) in
    let seen : (v.seen ++ x ∷ []) ++ later ≡ v.seen ++ x ∷ later = append_assoc v.seen (x ∷ []) later in
    let own : (v.own ++ length v.seen ∷ []) ++ range_with_len (length (v.seen ++ x ∷ [])) count ≡ v.own
    ++ range_with_len (length v.seen) (suc count) =
    rw (append_assoc, next) in
    λ i. record v { seen = seen i; own = own i }

-- one more, before the others
chain-more : (v : EvdevView) (stamped : Stamped) (events : List Stamped) (count rest : ℕ)
    → count ≡ entered_count v.description (length v.seen) (stamped ∷ events)
    → rest ≡ entered_count v.description (length (v.seen ++ inject_of stamped ∷ [])) events
    → IsHistory v.description (reverse v.seen)
    → (nat_lt (length v.seen) v.description.log_limit ≡ true
    → (let next : EvdevView = with_event v stamped in
    AreCalls next (with_events next rest events)
    (calls_of v.description.log_limit (length next.seen) events)))
    → AreCalls v (with_events v count (stamped ∷ events))
    (calls_of v.description.log_limit (length v.seen) (stamped ∷ events))
unfolding AreCalls
chain-more v stamped events count rest is later h others =
    by_room (nat_lt (length v.seen) v.description.log_limit) refl
  where
    limit : ℕ
    limit = v.description.log_limit

    next : EvdevView
    next = with_event v stamped

    longer : length (v.seen ++ inject_of stamped ∷ []) ≡ suc (length v.seen)
    longer = omega (arith, length-append v.seen (inject_of stamped ∷ []))

    by_room : (room : Bool) → nat_lt (length v.seen) v.description.log_limit ≡ room
        → AreCalls v (with_events v count (stamped ∷ events))
        (if room then entered_call (length v.seen) stamped
        ∷ calls_of v.description.log_limit (suc (length v.seen)) events
        else full_call (length v.seen) stamped ∷ [])
    by_room true room =
        let below : length v.seen < v.description.log_limit = grind (arith, nat_tests, room) in
        let one : count ≡ suc rest = omega (arith, is, later, below, longer) in
        let same : with_events next rest events ≡ with_events v count (stamped ∷ events) =
        rw (one, ← with_events-more v stamped rest events) in (
          next,
          entered-is_call v stamped room h,
          rw longer at
              (rw same at (others room)),
        )
    by_room false room =
        let above : v.description.log_limit ≤ length v.seen = grind (arith, nat_tests, room) in
        let none : count ≡ 0 = omega (arith, is, above) in
        (v, full-is_call v stamped room h, rw none (with_events-none v (stamped ∷ events)))

-- one by one
chain : (v : EvdevView) (events : List Stamped) (count : ℕ)
    → count ≡ entered_count v.description (length v.seen) events → IsHistory v.description (reverse v.seen)
    → AreCalls v (with_events v count events) (calls_of v.description.log_limit (length v.seen) events)
unfolding AreCalls
chain v [] count is h = let none : count ≡ 0 = omega (arith, is) in rw none (with_events-none v [])
chain v (stamped ∷ events) count is h =
    let next : EvdevView = with_event v stamped in
    let rest : ℕ = entered_count v.description (length next.seen) events in
    chain-more v stamped events count rest is refl h
    (λ room. chain next events rest refl (entered-is_call v stamped room h).history)

-- The turn is taken before the first of them

-- what a call leaves of one who saw less, before the turn was got
pub record IsEarlier (early v : EvdevView) : Type 0 where
  pub description : v.description ≡ early.description
  pub tie : v.tie ≡ early.tie
  pub seen : BeginsWith early.seen v.seen
  pub own : v.own ≡ early.own
  pub agains : v.agains ≡ early.agains
  pub turns : TurnsStand early.turns v.turns

call-earlier : (early v after : EvdevView) (call : Call) → IsEarlier early v → is_inject call.step ≡ true
    → IsCall v after call → IsCall early after call
call-earlier early v after call e injects c = record {
  description = c.description ∙ e.description;
  tie = c.tie ∙ e.tie;
  seen = BeginsWith-trans early.seen v.seen after.seen e.seen c.seen;
  fresh = omega (arith, c.fresh, length-begins early.seen v.seen e.seen);
  long = c.long;
  placed = c.placed;
  own = c.own ∙ ap (own_after call.answer.reply) e.own;
  agains = c.agains ∙ ap (agains_after call.answer.reply) e.agains;
  turns = TurnsStand-trans early.turns v.turns after.turns e.turns c.turns;
  rises = λ h. absurd (let same : true ≡ false = sym injects ∙ h in cc same);
  history = c.history;
}

calls-earlier : (early v after : EvdevView) (limit from : ℕ) (first : Stamped) (events : List Stamped)
    → IsEarlier early v → AreCalls v after (calls_of limit from (first ∷ events))
    → AreCalls early after (calls_of limit from (first ∷ events))
unfolding AreCalls
calls-earlier early v after limit from first events e = by_room (nat_lt from limit)
  where
    by_room : (room : Bool)
        → AreCalls v after (if room then entered_call from first ∷ calls_of limit (suc from) events
        else full_call from first ∷ [])
        → AreCalls early after (if room then entered_call from first ∷ calls_of limit (suc from) events
        else full_call from first ∷ [])
    by_room true are = (are.0, call-earlier early v are.0 (entered_call from first) e refl are.1, are.2)
    by_room false are = (are.0, call-earlier early v are.0 (full_call from first) e refl are.1, are.2)

pub injected-calls : (before after : EvdevView) (first : Stamped) (events : List Stamped)
    (injected : Injected) → IsInjectAll before after (first ∷ events) injected
    → AreCalls before after (calls_of before.description.log_limit injected.from (first ∷ events))
injected-calls before after first events injected all =
    let found : EvdevView = record before { seen = all.found; turns = after.turns } in
    let d : Description = before.description in
    let stamps : List Stamped = first ∷ events in
    let early : IsEarlier before found = record {
      description = refl;
      tie = refl;
      seen = all.begins;
      own = refl;
      agains = refl;
      turns = TurnsStand-rise before.turns after.turns all.turns;
    } in
    let history : IsHistory d (reverse (history_with all.found injected.count stamps)) =
    rw all.description at
    (rw all.seen at all.history) in
    let begun : IsHistory d (reverse all.found) =
    history-shorter d all.found (map inject_of (take injected.count stamps)) history in
    let count : injected.count ≡ entered_count d (length all.found) stamps = rw (all.count, all.from) in
    let own : before.own ++ range_with_len (length all.found) injected.count ≡ after.own =
    sym (rw (all.own, all.from)) in
    let is : with_events found injected.count stamps ≡ after =
    λ i. record {
      description = sym all.description i;
      seen = sym all.seen i;
      own = own i;
      agains = sym all.agains i;
      turns = after.turns;
      tie = sym all.tie i;
    } in
    let calls : AreCalls found after (calls_of d.log_limit (length all.found) stamps) =
    rw is at (chain found stamps injected.count count begun) in
    rw all.from (calls-earlier before found after d.log_limit (length all.found) first events early calls)

-- What the caller of a device is told of it

pub range-append : (a m n : ℕ) → range_with_len a (m + n) ≡ range_with_len a m ++ range_with_len (a + m) n
range-append a zero n =
    let start : a ≡ a + 0 = omega arith in
    let all : zero + n ≡ n = omega arith in
    cc (all, start)
range-append a (suc m) n =
    let more : suc m + n ≡ suc (m + n) = omega arith in
    let start : (a + 1) + m ≡ a + suc m = omega arith in
    rw (more, range-append (a + 1) m n, start)

-- how long a history is behind so many of these events
pub history_with-long : (history : List Step) (count : ℕ) (events : List Stamped) → count ≤ length events
    → length (history_with history count events) ≡ length history + count
history_with-long history count events few = rw (length-append, length-map, length-take-le)

pub evdev_injected : (before after : DeviceView) (events : List Stamped) (injected : Injected)
    → after.description ≡ before.description → injected.from ≡ length before.past
    → injected.count ≡ entered_count before.description injected.from events
    → injected.from + injected.count ≤ LOG_MAX
    → reverse after.past ≡ history_with (reverse before.past) injected.count events
    → after.agains ≡ before.agains → IsHistory after.description after.past
    → IsInjectAll (evdev_view before) (evdev_view after) events injected
evdev_injected before after events injected same from count within entered agains history =
    let few : injected.count ≤ length events = omega (arith, count) in
    let long : length after.past ≡ length before.past + injected.count =
    rw (← length-reverse, entered, history_with-long, length-reverse) in
    let start : 0 + length before.past ≡ injected.from = omega (arith, from) in
    record {
      found = reverse before.past;
      description = same;
      tie = refl;
      begins = ([], sym (append-nil (reverse before.past)));
      from = from ∙ sym (length-reverse before.past);
      count = count;
      within = within;
      seen = entered;
      own = rw (long, range-append, start);
      agains = agains;
      turns = tt;
      history = subst (IsHistory after.description) (sym (reverse-reverse after.past)) history;
    }
