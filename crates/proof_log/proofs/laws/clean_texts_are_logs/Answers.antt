use Rattle.proof_log.proofs.CleanTexts.{clean_texts}
use Rattle.proof_log.proofs.laws.clean_texts_are_logs.Goals as goal

pub returns : goal.returns
returns c = clean_texts
