-- `none` owns nothing.
use Rattle.std.proofs.Common.{◌≡◌, [], ◌∷◌, refl, lit<}
use base.Logic.{emp}
use base.Fml.{ftrue}
use types.Kit.{‵, raw, ◌⊛◌, ◌$◌, ◌∵◌, !, qed, by, keep, use0}
use types.Run.{lit, no_more, and_then, returns, enter}
use types.ByLocal.{alloc_all, pass_all, free_all, look_at, sets}
use types.Part.{agg}
use contract.Monad.{fact, fact_i}
use contract.Running.{tables}
use denote.RattleType.{owns}
use denote.Signature.{types_at}
use denote.RawPtr.{null_ptr, ptr_val}
use denote.Steps.{nothing}
use denote.Triple.Walked.{Stays, walk_of}
use Rattle.std.proofs.raw_atomic.Walks.{proved_at, leaves}
use Rattle.std.specs.Prelude.{Option, None}
use Rattle.inp_c.specs.declared.kept.Kept.{Kept}
use Rattle.inp_c.proofs.Pointer.{one, lent_in}
use Rattle.inp_c.specs.contracts.loose.Loose.none.{ended, clauses}
use Rattle.inp_c.specs.contracts.loose.Loose.none.Key.{name as #self}
use Rattle.inp_c.proofs.loose.Loose.none.Statement.{statement}
use Rattle.inp_c.proofs.loose.Loose.none.Code as code

abbrev nothing_kept : Option Kept
nothing_kept = None

abbrev stayed : Stays ended.signature.params ended.kept
stayed = tt

pub none_spec : {M : Type 1} → statement M
none_spec 𝓤 𝓛 𝓜 𝓡 wired =
    let H =
    𝓛.H in let 𝓣 = tables 𝓤 H 𝓜 𝓡 𝓡.env in let c = clauses 𝓛 𝓜.mem 𝓡.returns in let fn = code.function in
    proved_at 𝓛 ended stayed c 𝓜 𝓡 tt #self fn (code.unfolded 𝓤 H 𝓜 𝓡 wired) (λ z are.
    let κs = z.0.0 in
    qed 𝓛 ((‵ ftrue ⊛ ‵ (owns (types_at ended.signature.params κs) z.0.3 z.0.4))
    ∷ raw ((c κs z.0.3).requires z.1) ∷ []) ∵
    enter ! 𝓣.C 𝓣.Λ fn [] ((walk_of 𝓛 ended stayed c).post z) $ alloc_all ! (λ l. pass_all ! refl tt $
    sets ! (agg ! (and_then ! (lit ! tt) (no_more !))) refl (tt, (record { fits = lit< tt }, tt)) $
    nothing ! $ lent_in ! null_ptr nothing_kept $
    use0 𝓛 (raw (fact 𝓤 (nothing_kept ≡ nothing_kept)))
    (fact_i 𝓤 (nothing_kept ≡ nothing_kept) (emp 𝓤) refl) $ nothing ! $
    returns ! (look_at ! 0 refl) $ free_all ! refl $ nothing ! $ keep ! (0 ∷ 1 ∷ 3 ∷ 2 ∷ []) $
    by ! (leaves 𝓛 ended stayed c z (one (ptr_val null_ptr))
    (record { at = null_ptr; value = nothing_kept }) tt tt)))
