-- The words that a worked example unfolds beside those of `inp_model`, in one place.
use Rattle.inp_feedback.specs.Sent.{sent_for_all, sent}
use Rattle.inp_feedback.specs.Feedback.{feedback_queue}
use Rattle.inp_model.proofs.Computation.{computing as of_model}

unfoldable pub computing : Type 0
unfolding sent_for_all sent feedback_queue of_model
computing = Unit {0}
