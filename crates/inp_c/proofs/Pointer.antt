-- The machine value of a `Loose`. Assumes `Logic`.
use Rattle.std.proofs.Common.{◌≡◌, List, [], ◌∷◌, ◌++◌, refl, subst, arith}
use seplogic.Ra.Ura.{Ura}
use mir.Val.{Val, vstruct, vcons, vnil, of_list}
use types.Logic.{Logic}
use types.Kit.{Item, Goal, Seq, Step, step, ‵, ◌$◌, drop, fsplit, fjoin, fpick, fpack, feq_i, feq_l}
use denote.RattleType.{RattleType, Valss}
use denote.Builtin.{RawPtr}
use denote.RawPtr.{Ptr, ptr_val}
use denote.Steps.{nothing}
use denote.Struct.Struct.{within}
use denote.Struct.Owning.{shape}
use Rattle.std.specs.Prelude.{Option, Some, None, IsSome}
use Rattle.inp_c.specs.Loose.{loose_owns}
use Rattle.inp_c.specs.declared.kept.Kept.{Kept}
use Rattle.inp_c.specs.contracts.loose.Loose as loose

abbrev pub Lent : RattleType
Lent = loose.the_row

abbrev pub one : Val → Val
one v = vstruct (vcons v vnil)

-- an option that is some has a value
pub some_of : (o : Option Kept) → IsSome o → (x : Kept) × (o ≡ Some x)
some_of None h = grind arith
some_of (Some x) h = (x, refl)

module _ {M : Type 1} {𝓤 : Ura M} {𝓛 : Logic 𝓤} {K : Type 0} {Γ : List (Item 𝓤)} {G : Goal 𝓤 𝓛.H} where
  -- what is lent is a pointer that owns what is behind it
  pub lent_out : K → (d : Lent.Denot) (vs : List Val)
      → (vs ≡ one (ptr_val d.at) ∷ [] → Seq K 𝓛 (‵ (loose_owns d.at d.value) ∷ Γ) G)
      → Seq K 𝓛 (‵ (Lent.own_val d vs) ∷ Γ) G
  lent_out t d vs k =
      fsplit t $ fpick t (λ vss. fsplit t $ feq_l t (λ ev. fsplit t $ feq_l t (λ ep. drop t $ k
      (subst (λ (ps : List Val). vs ≡ vstruct (of_list (ps ++ [])) ∷ []) ep ev))))

  -- a pointer that owns what is behind it is what is lent
  pub lent_in : K → (p : Ptr) (o : Option Kept)
      → Step K 𝓛 (‵ (Lent.own_val (record { at = p; value = o }) (one (ptr_val p) ∷ [])) ∷ Γ) G
      (‵ (loose_owns p o) ∷ Γ) G
  lent_in t p o = step (λ s. let v : Val = one (ptr_val p) in
      nothing t $ feq_i t (List Val) (ptr_val p ∷ []) (ptr_val p ∷ []) refl $ fjoin t $ feq_i t (List Val)
      (v ∷ []) (v ∷ []) refl $ fjoin t $
      fpack t (Valss (RawPtr ∷ [])) (within (shape loose.the_type) (p, tt) (v ∷ []))
      (ptr_val p ∷ [], tt) $ fjoin t $ s)
