use Rattle.std.proofs.Common.{ℕ, eqb}
use Rattle.std.proofs.lemmas.Bool.Decides.{Decides-eqb}
use Rattle.std.proofs.lemmas.Slice.Eq.{strip_prefix_is}
use Rattle.setup_lines.proofs.line.after_name.Goals as goal

pub returns : goal.returns
returns c =
    let has = strip_prefix_is {A = ℕ} {E = eqb} Decides-eqb c.args.bytes.now c.as_slice.result.now c.strip_prefix.result c.strip_prefix.ensures.cases in
    rw c.as_slice.ensures at has
