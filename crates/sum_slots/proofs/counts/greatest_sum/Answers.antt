-- One more term is counted, of at most as many as there are slots.
use Rattle.std.proofs.Common.{◌≡◌, ℕ, ◌+◌, ◌<◌, Bool, false, List, length, map, get_or, drop, ap, ◌∙◌, arith, ◌+ℤ◌}
use Rattle.std.proofs.lemmas.Int.{ints}
use Rattle.std.proofs.lemmas.List.{drop_more, get_or_default}
use Rattle.row_kit.specs.declared.domain.Domain.{Domain}
use Rattle.row_kit.specs.declared.row.Entry.{Entry}
use Rattle.row_kit.specs.Domain.{no_values}
use Rattle.row_kit.proofs.Ascending.{few_entries, no_entry}
use Rattle.sum_slots.specs.Shown.{greatest_counted, greatest_sum, turned}
use Rattle.sum_slots.proofs.counts.greatest_sum.Goals as goal

-- the domain that is read where there is none
abbrev blank : Domain
blank = record { zero = false; lo = 0; hi = 0 }

one_more : (turn : Bool) (ts : List Entry) (ds : List Domain) (i : ℕ) → i < length ts → (get_or ts i no_entry).slot < length ds →
    greatest_sum (map (turned turn) (drop i ts)) ds ≡ greatest_counted (turned turn (get_or ts i no_entry)) (get_or ds (get_or ts i no_entry).slot blank) +ℤ greatest_sum (map (turned turn) (drop (i + 1) ts)) ds
one_more turn ts ds i lt within =
    let t = get_or ts i no_entry in
    ap (λ es. greatest_sum (map (turned turn) es) ds) (drop_more ts i no_entry lt)
    ∙ ap (λ d. greatest_counted (turned turn t) d +ℤ greatest_sum (map (turned turn) (drop (i + 1) ts)) ds) (get_or_default ds t.slot no_values blank within)

pub loop-term-preserved : goal.loop-term-preserved
loop-term-preserved c =
    let ts = c.args.terms.now in
    let ds = c.args.domains.now in
    let i = c.loop-term.term-index in
    let d = get_or ds (get_or ts i no_entry).slot blank in
    let counts = c.greatest_counted-sum.ensures.value ∙ ap (λ e. greatest_counted e d) c.turned.ensures.written in
    let more = one_more c.args.turn ts ds i c.loop-term-test.true (c.requires.bounded.named i no_entry c.loop-term-test.true) in
    record {
      whole = omega (arith, ints, more, counts, c.loop-term.invariant.whole, c.loop-term.invariant.small, c.greatest_counted-sum.ensures.small);
      small = omega (arith, ints, c.loop-term.invariant.small, c.greatest_counted-sum.ensures.small);
    }

pub returns-clause-small : goal.returns-clause-small
returns-clause-small c =
    omega (arith, ints, c.loop-term.invariant.small, few_entries (length c.args.domains.now) 10000000 c.args.terms.now c.requires.bounded)
