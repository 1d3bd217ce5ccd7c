-- Which events a flush removes.
use Rattle.inp_model.specs.Step.{Query, Codes, Slots}
use Rattle.inp_ring.specs.declared.class.Class.{Class}
use Rattle.inp_ring.specs.declared.class.Class.TheVariants.{Kind, MultiTouch}

-- the query that tells the class whole
abbrev pub query_of_class : Class → Query
query_of_class (Kind kind) = Codes kind
query_of_class MultiTouch = Slots
