use Rattle.inp_tool.proofs.Faults.{no_fault_hidden}
use Rattle.inp_tool.proofs.Completeness.{complete}
use Rattle.inp_tool.proofs.top.inputplay.Goals as goal

pub returns-clause-no_fault_hidden : goal.returns-clause-no_fault_hidden
returns-clause-no_fault_hidden g c =
    no_fault_hidden _ _ _ c.write_outcome.result
    (record {
      found = c.outcome_of-found.result;
      cause = c.outcome_of-found.ensures.cause;
      written = c.write_outcome.ensures.written;
    })

pub returns-clause-complete : goal.returns-clause-complete
returns-clause-complete g c =
    complete _ _ _ c.write_outcome.result
    (record {
      found = c.outcome_of-found.result;
      cause = c.outcome_of-found.ensures.cause;
      written = c.write_outcome.ensures.written;
    })
    c.outcome_of-found.ensures.stays_told
