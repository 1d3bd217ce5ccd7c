use Rattle.std.proofs.Common.{◌∙◌, sym, subst, w32, FitsSigned, ◌≡◌, ℕ, Bool, true, if◌then◌else◌, List, ℤ}
use Rattle.std.proofs.lemmas.Int.{to_z-of_z}
use Rattle.inp_model.specs.Raw.{raw}
use Rattle.inp_state.specs.State.{StateStandsFor}
use Rattle.inp_model.specs.declared.event.TheConstants.{EV_ABS}
use Rattle.inp_model.specs.declared.axis_info.AxisInfo.{AxisInfo}
use Rattle.inp_model.specs.RawItem.{RawItem}
use Rattle.inp_model.specs.Description.{Description, supports, no_info}
use Rattle.inp_model.specs.State.{axis_info}
use Rattle.inp_model.specs.Reply.{present_value, axis_answer}
use Rattle.inp_device.proofs.queries.axis.Goals as goal

-- what is answered, by whether the axis is supported and by its value
abbrev axis_by : Bool → AxisInfo → ℤ → AxisInfo
axis_by there axis v = if there then record axis { value = v } else no_info

axis-there : (d : Description) (r : List RawItem) (code : ℕ) (axis : AxisInfo) (kept v : ℤ)
    → supports d EV_ABS code ≡ true → axis ≡ record (axis_info d r code) { value = kept }
    → v ≡ present_value d r code → let given : AxisInfo =
    record axis { value = v } in given ≡ axis_answer d r code
axis-there d r code axis kept v h is takes = rw (is, takes) (sym (rw h))

-- the axis is supported, so it is answered with its description and its present value
pub returns : goal.returns
returns c =
    let fits : FitsSigned w32 c.present_value.result = record { sfits = c.present_value.type_inv } in
    record {
      axis = λ past h. axis-there c.args.caps.now
          (raw c.args.caps.now past) c.args.code c.info-info.result _ _ (sym c.supports.ensures.supported
          ∙ c.if-not-supports.false)
          (c.info-info.ensures.info c.args.caps.now (raw c.args.caps.now past)
          (subst (StateStandsFor c.args.caps.now (raw c.args.caps.now past))
          (sym c.state.ensures.state) h.raw_events.state))
          (to_z-of_z w32 c.present_value.result fits ∙ c.present_value.ensures.value c.args.caps.now past h);
    }
