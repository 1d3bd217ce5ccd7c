-- `into_parts` hands on what the pointer owns.
use Rattle.std.proofs.Common.{◌≡◌, List, [], ◌∷◌, ◌++◌, refl, sym, subst}
use mir.Val.{Val, vptr}
use base.Logic.{SProp, ent, emp, id⊢, never, fst∗}
use base.Fml.{ftrue}
use mir.Raw.{raw as bare}
use prog.Wp.{WpFn}
use types.Logic.{sem}
use types.Kit.{‵, raw, ◌⊛◌, ◌$◌, ◌∵◌, !, qed, by, move, keep, split, fsplit, fjoin, suffices, use0, rewrite}
use types.Run.{stop, fld, of_opd, no_more, and_then, returns, enter}
use types.ByLocal.{alloc_all, pass_all, free_all, look_at, get, get_in, sets}
use types.Part.{agg, sub, whole}
use contract.Monad.{fact, fact_i}
use contract.Running.{tables}
use denote.Exit.{yes}
use denote.Memory.{lone}
use denote.RattleType.{RattleType, owns}
use denote.Signature.{types_at, plain}
use denote.RawPtr.{Ptr, block_ptr, null_ptr, ptr_val, in_a_block}
use denote.Steps.{nothing, heard}
use denote.Triple.Walked.{Stays, stay_dropped, walk_of}
use Rattle.std.proofs.alloc.Calls.{Goes-blank, handle_tells}
use Rattle.std.proofs.alloc.Global.TheLaws as heap_laws
use Rattle.std.specs.contracts.alloc.Global as heap
use Rattle.std.specs.contracts.impls.GlobalAllocator.TheImpl.{ghosts}
use Rattle.std.specs.Box.Ownership.{box_owns}
use Rattle.std.proofs.raw_atomic.Walks.{proved_at, leaves}
use Rattle.std.specs.Prelude.{Some, IsSome, Option}
use Rattle.inp_c.specs.Loose.{loose_owns}
use Rattle.inp_c.specs.declared.kept.Kept.{Kept}
use Rattle.inp_c.specs.contracts.kept.Kept as kept
use Rattle.inp_c.proofs.Values.{both, al, Loose, loose_good, loose_in}
use Rattle.inp_c.proofs.Pointer.{Lent, one, some_of, lent_out}
use Rattle.inp_c.specs.contracts.loose.Loose.into_parts.{ended, clauses}
use Rattle.inp_c.specs.contracts.loose.Loose.into_parts.Key.{name as #self}
use Rattle.inp_c.proofs.loose.Loose.into_parts.Statement.{statement}
use Rattle.inp_c.proofs.loose.Loose.into_parts.Code as code

abbrev P : RattleType
P = Loose kept.the_row heap.the_row heap_laws.the_row_laws ghosts

abbrev stayed : Stays ended.signature.params ended.kept
stayed = (stay_dropped (plain (λ _. Lent)) yes, (stay_dropped (plain (λ _. heap.the_row)) yes, tt))

pub into_parts_spec : {M : Type 1} → statement M
into_parts_spec 𝓤 𝓛 𝓜 𝓡 wired =
    let H =
    𝓛.H in let 𝓣 = tables 𝓤 H 𝓜 𝓡 𝓡.env in let c = clauses 𝓛 𝓜.mem 𝓡.returns in let fn = code.function in
    proved_at 𝓛 ended stayed c 𝓜 𝓡 (
      Goes-blank 𝓛 0 (plain (λ _. Lent)) yes (λ κs x f. tt),
      (Goes-blank 𝓛 0 (plain (λ _. heap.the_row)) yes (λ κs x f. tt), tt),
    ) #self fn
    (code.unfolded 𝓤 H 𝓜 𝓡 wired) (λ z are.
    let κs =
    z.0.0 in let d = z.0.3.0 in let a = z.0.3.1.0 in let Post : Val → SProp 𝓤 =
    (walk_of 𝓛 ended stayed c).post z in let Run : List Val → SProp 𝓤 = λ ws. WpFn 𝓤 H 𝓣.C 𝓣.Λ fn ws Post in
    qed 𝓛 ((‵ ftrue ⊛ ‵ (owns (types_at ended.signature.params κs) z.0.3 z.0.4))
    ∷ raw (fact 𝓤 (IsSome d.value)) ∷ []) ∵ move ! (1 ∷ []) $ heard ! _
    (λ there. split ! $ move ! (1 ∷ []) $ fsplit ! $
    lent_out ! d z.0.4.0 (λ ws. let found = some_of d.value there in let x = found.0 in
    rewrite ! 0 (λ (o : Option Kept). ‵ (loose_owns d.at o)) found.1 refl $
    move ! (1 ∷ []) $ fsplit ! $ handle_tells
    (al kept.the_row heap.the_row heap_laws.the_row_laws ghosts) ! a z.0.4.1.0 (λ h eh fits. move ! (2 ∷ []) $
    in_a_block ! d.at (λ p. box_owns (ghosts.dealloc_token a) kept.the_row p x)
    (fst∗ 𝓤 (never 𝓤) (sem 𝓛 (ghosts.dealloc_token a (bare (lone (kept.the_row).mir)) null_ptr))) (λ b o e.
    let is = subst (λ (p : Ptr). z.0.4.0 ≡ one (ptr_val p) ∷ []) e ws in
    suffices ! (Run (one (vptr b o) ∷ h ∷ []))
    (subst (λ (us : List Val). ent 𝓤 (Run (one (vptr b o) ∷ h ∷ [])) (Run us))
    (sym (λ i. is i ++ (eh i ++ []))) (id⊢ 𝓤 (Run (one (vptr b o) ∷ h ∷ [])))) $
    enter ! 𝓣.C 𝓣.Λ fn (one (vptr b o) ∷ h ∷ []) Post $ alloc_all !
    (λ l. pass_all ! refl ((tt, (tt, tt)), (fits, tt)) $
    sets ! (of_opd ! (get_in ! (fld ! refl (stop !)) (sub ! 0 refl (whole !)))) refl (tt, tt) $
    sets ! (of_opd ! (get ! refl)) refl (tt, tt) $
    sets ! (agg ! (and_then ! (get ! refl) (and_then ! (get ! refl) (no_more !)))) refl
    (loose_good kept.the_row heap.the_row heap_laws.the_row_laws ghosts b o h fits) $
    loose_in kept.the_row heap.the_row heap_laws.the_row_laws ghosts ! b o h a x $
    use0 𝓛 (raw (fact 𝓤 (Some x ≡ d.value)))
    (fact_i 𝓤 (Some x ≡ d.value) (emp 𝓤) (sym found.1)) $ nothing ! $ nothing ! $ fjoin ! $
    nothing ! $ fjoin ! $
    returns ! (look_at ! 0 refl) $ free_all ! refl $ nothing ! $ keep ! (0 ∷ 1 ∷ 3 ∷ 2 ∷ []) $
    by ! (leaves 𝓛 ended stayed c z (both (vptr b o) h) (record { at = block_ptr b o; alloc = a; value = x })
    (tt, (tt, tt)) (tt, (tt, tt)))))))))
