use Rattle.std.proofs.Common.{◌≡◌, ℕ, List, ◌++◌, arith, ap, ◌∙◌, append_assoc}
use Rattle.std.proofs.lemmas.Int.{to_z-of_z, fits_signed_from_abs}
use Rattle.std.proofs.lemmas.Result.{on_ok_weaker}
use mir.Val.{to_z, of_z}
use mir.Syntax.{w128}
use Rattle.stn_model.specs.Stock.{stock}
use Rattle.plan_tables.specs.Stocks.{level_cells, stock_line}
use Rattle.plan_tables.proofs.stocks.push_stock.Goals as goal

-- what is put in three pieces is put
three_pieces : (old first second whole name level limit : List ℕ) → first ≡ old ++ name → second ≡ first ++ level → whole ≡ second ++ limit → whole ≡ old ++ (name ++ (level ++ limit))
three_pieces old first second whole name level limit a b c =
    rw (c, b, a) (append_assoc (old ++ name) level limit ∙ append_assoc old name (level ++ limit))

pub returns : goal.returns
unfolding stock_line
returns c =
    let level = c.stock_at-level.result in
    let kept : to_z w128 (of_z w128 level) ≡ level = to_z-of_z w128 level (fits_signed_from_abs w128 level (omega (arith, c.stock_at-level.ensures.small))) in
    let same : level_cells c.args.time (to_z w128 (of_z w128 level)) ≡ level_cells c.args.time (stock c.args.plant.now c.args.plan.now c.args.state c.args.time) =
    ap (level_cells c.args.time) (kept ∙ c.stock_at-level.ensures.value) in
    on_ok_weaker c.push_limit_cells.result
    (three_pieces _ _ _ _ _ _ _ (c.in_ok-extend_from_slice.ensures.items ∙ ap (λ (name : List ℕ). c.args.text.now.items ++ name) c.state_name.ensures)
    (c.in_ok-push_level.ensures ∙ ap (λ (cells : List ℕ). c.extend_from_slice.new.self.items ++ cells) same))
    c.push_limit_cells.ensures
