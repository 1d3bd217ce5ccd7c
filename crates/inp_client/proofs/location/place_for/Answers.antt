use Rattle.std.proofs.Common.{nat_lt, rules}
use Rattle.std.proofs.lemmas.List.Sorted.{IsPartitionPoint-from_clause, IsPartitionedBy-ltb}
use Rattle.inp_client.proofs.Locations.{not_falling, place_is}
use Rattle.inp_client.proofs.location.place_for.Goals as goal

-- the numbers before the end of the search are lower, and those behind it are not
pub returns : goal.returns
returns c =
    let locations = c.args.locations.now in
    let number = c.args.number in
    record {
      place = place_is locations number c.partition_point.result c.partition_point.ensures.bound
          (IsPartitionPoint-from_clause
          (λ s. nat_lt s.number number) locations c.partition_point.result
          c.partition_point.ensures.partitioned
          (IsPartitionedBy-ltb (λ s. s.number) locations number (not_falling locations c.requires.ascending))
          (λ a r f g. search rules));
    }
