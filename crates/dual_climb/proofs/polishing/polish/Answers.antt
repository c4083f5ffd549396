-- Where there are more rows than a certificate may name, it is left as it is; else the factors that are not 0 have the total of all.
use Rattle.std.proofs.Common.{◌≡◌, ◌∙◌, ◌≤◌, ℕ, length, ap, refl, subst, sym, true, arith, rules}
use Rattle.row_kit.specs.Area.{present}
use Rattle.dual_bound.specs.declared.cert.Cert.{Cert}
use Rattle.dual_bound.specs.Total.{are_fit}
use Rattle.dual_climb.specs.laws.Sums.{weighted}
use Rattle.dual_climb.proofs.Ended.{done_changed, done_kept, done_untouched, Descended, IsDone}
use Rattle.dual_climb.proofs.polishing.polish.Goals as goal
use Rattle.dual_climb.proofs.polishing.polish.Goals.{then-descend+in_ok-cert, else-descend}

pub returns-then-len-gt-MOST_MULTS : goal.returns-then-len-gt-MOST_MULTS
returns-then-len-gt-MOST_MULTS c =
    let done = done_untouched c.args.program.now (present c.args.area.now) c.args.cert.now c.args.stop c.requires.total (omega (arith, c.if-len-gt-MOST_MULTS.true, c.len.ensures)) in
    record { scale = refl; total = done.total; changes = done.changes; kept = done.kept; err = tt; best = done.best }

pub returns : goal.returns
returns c =
    let p = c.args.program.now in
    let ds = present c.args.area.now in
    let cert = c.args.cert.now in
    let new = c.descend.new.held in
    let held = c.in_ok-held.held in
    let few_rows : length p.rows ≤ 50000 = omega (arith, c.if-len-gt-MOST_MULTS.false, c.len.ensures) in
    let d : Descended p ds cert c.args.stop held.mults.items new.mults.items held.total new.total =
    record { same = c.in_ok-held.ensures.same; was = c.in_ok-held.ensures.total; is_total = c.descend.ensures.held.is_total; never = c.descend.ensures.never; lowered = c.descend.ensures.changes; best = c.descend.ensures.best } in
    let done : IsDone p ds cert c.if-descend.cert c.args.stop =
    elim c.if-descend.branch [
      | then-descend+in_ok-cert w ↦
          let list = w.in_ok-cert.field-0 in
          let rows : length w.as_slice.result.now ≡ length p.rows = ap length w.as_slice.ensures.value ∙ c.descend.ensures.held.gained.full.all in
          subst (λ (x : Cert). IsDone p ds cert x c.args.stop) (sym w.cert-is)
          (done_changed p ds cert c.args.stop held.mults.items new.mults.items list held.total new.total d c.requires.total (c.descend.ensures.fell w.if-descend.true)
          (subst (λ (n : ℕ). are_fit n 0 list ≡ true) rows w.in_ok-cert.ensures.fit) (omega (arith, rows, w.in_ok-cert.ensures.few)) few_rows (λ worth. w.in_ok-cert.ensures.same worth ∙ ap (weighted worth) w.as_slice.ensures.value))
      | else-descend w ↦
          subst (λ (x : Cert). IsDone p ds cert x c.args.stop) (sym w.cert-is)
          (done_kept p ds cert c.args.stop held.mults.items new.mults.items held.total new.total d c.requires.total (c.descend.ensures.same w.if-descend.false))
    ] in
    record { scale = search rules; total = done.total; changes = done.changes; kept = done.kept; err = search rules; best = done.best }
