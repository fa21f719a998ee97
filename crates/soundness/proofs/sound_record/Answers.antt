-- `soundness::sound_record` meets its contract. Assumes nothing.
use Rattle.record.specs.Answer.{number_of}
use Rattle.record.proofs.Answered.{refusal-on}
use Rattle.record.proofs.Refused.{wrong_size_lem}
use Rattle.soundness.proofs.sound_record.Goals as goal

pub returns-in_default-clause-refused : goal.returns-in_default-clause-refused
unfolding number_of
returns-in_default-clause-refused c = wrong_size_lem _ c.in_default.ensures.cases

pub returns-in_err-look-clause-refused : goal.returns-in_err-look-clause-refused
returns-in_err-look-clause-refused c =
    rw (← c.in-Some.ensures.cases.same) (refusal-on _ c.from_residual.result _ c.from_residual.ensures.1 c.in_err-look.ensures.refused)

pub returns-clause-refused : goal.returns-clause-refused
unfolding number_of
returns-clause-refused c = rw (← c.in-Some.ensures.cases.same) c.in_ok-look.ensures.refused
