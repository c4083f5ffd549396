-- Roots of which the first slots are cut.
use Rattle.std.proofs.Common.{◌≡◌, ℕ, ◌-◌, ◌<◌, ◌≤◌, List, ◌++◌, length, get_or, refl, sym, ap, ◌∙◌, inl, inr, arith, length-append}
use Rattle.std.proofs.lemmas.Bool.{cases_lt}
use Rattle.std.proofs.lemmas.List.{get_or_append_left, get_or-append_right, get_or_default, same_lists}
use Rattle.row_kit.specs.declared.domain.Domain.{Domain}
use Rattle.row_kit.specs.Domain.{domain_at, no_values}
use Rattle.plant_parts.specs.PlantParts.{cut_domain, cut_root}
use Rattle.plant_parts.proofs.Cutting.{cut-at, cut-rest, length-cut}

-- cutting the first slots leaves the later ones
pub cut-front : (levels number : ℕ) (whole later : List Domain) → levels ≤ length whole → cut_root levels number (whole ++ later) ≡ cut_root levels number whole ++ later
cut-front levels number whole later few =
    let all = length-append whole later in
    let long = length-cut levels number (whole ++ later) in
    let own = length-cut levels number whole in
    same_lists (cut_root levels number (whole ++ later)) (cut_root levels number whole ++ later)
    (long ∙ all ∙ (let own' = length-append (cut_root levels number whole) later in omega (arith, own, own')))
    (λ k d lt.
    let within : k < length (whole ++ later) = omega (arith, lt, long) in
    cut-at levels number (whole ++ later) k d within
    ∙ elim (cases_lt k (length whole)) [
      | inl low ↦
          ap (cut_domain levels number k) (get_or_append_left whole later no_values k low)
          ∙ sym (get_or_append_left (cut_root levels number whole) later d k (omega (arith, low, own)) ∙ cut-at levels number whole k d low)
      | inr high ↦
          cut-rest levels number k (domain_at (whole ++ later) k) (omega (arith, few, high))
          ∙ get_or-append_right whole later (length whole) k no_values refl high
          ∙ default_same later (k - length whole) no_values d (omega (arith, within, all, high))
          ∙ sym (get_or-append_right (cut_root levels number whole) later (length whole) k d own high)
    ])
  where
    default_same : (ds : List Domain) (k : ℕ) (d e : Domain) → k < length ds → get_or ds k d ≡ get_or ds k e
    default_same ds k d e lt = get_or_default ds k d e lt
