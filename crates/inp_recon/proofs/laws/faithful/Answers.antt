-- The law on what a read takes, and from it the one on all that a client took.
use Rattle.inp_recon.proofs.FaithfulReads.{reads-faithful}
use Rattle.inp_recon.proofs.FaithfulHistories.{faithful_by_reads}
use Rattle.inp_recon.proofs.laws.faithful.Goals as goal

pub returns-clause-histories : goal.returns-clause-histories
returns-clause-histories c = faithful_by_reads reads-faithful

pub returns-clause-reads : goal.returns-clause-reads
returns-clause-reads c = reads-faithful
