use Rattle.std.proofs.Common.{◌≡◌, [], ◌∷◌, Some, rules}
use Rattle.inp_turn.proofs.KeptRule.{opens}
use Rattle.inp_turn.proofs.shared.Shared.new.Goals as goal

pub new-requires : goal.new-requires
new-requires g c = let is : c.push_reserved.new.self.items ≡ Some c.of-start.result.value ∷ [] =
    search rules in
    opens g.S.Kept.base g.S.Kept.entries c.of-start.result.value c.push_reserved.new.self.items is
