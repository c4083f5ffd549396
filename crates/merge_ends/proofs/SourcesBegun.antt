-- Logs that begin their proofs, one after another, and lists by place.
use Rattle.std.proofs.Common.{◌≡◌, ◌∙◌, inl, inr, ℕ, ◌+◌, ◌<◌, List, [], ◌∷◌, ◌++◌, drop, length, get_or, Option, Some, sym, ap, subst, arith}
use Rattle.std.specs.Prelude.{IfSome, slice_get}
use Rattle.std.proofs.lemmas.Bool.{cases_eq}
use Rattle.std.proofs.lemmas.List.{drop-set-lt, drop_more, get_or-drop, get_or_append_left, length_push}
use Rattle.std.proofs.Math.ListN.{set}
use Rattle.std.proofs.Math.Seq.{get_or-append_seam}
use Rattle.std.proofs.lemmas.Option.{get_or_from_slice_get, slice_get-get_or, slice_get_within}
use Rattle.log_nodes.specs.declared.front.Front.{Front}
use Rattle.merged_nodes.specs.declared.sources.Source.{Source}
use Rattle.merge_ends.specs.laws.Begun.{AreBegun, IsSourceBegun}

-- no log begins yet
pub begun-none : (fronts : List Front) (order : List ℕ) → order ≡ [] → AreBegun fronts order []
begun-none fronts order none = record { as_many = ap length (sym none); each = λ place one there. absurd cc }

-- one more log begins its proof
pub begun-more : (fronts : List Front) (order : List ℕ) (number : ℕ) (sources : List Source) (source : Source) → AreBegun fronts order sources → IsSourceBegun fronts number source → AreBegun fronts (order ++ number ∷ []) (sources ++ source ∷ [])
begun-more fronts order number sources source are is = record {
  as_many = length_push sources source ∙ ap (λ (n : ℕ). n + 1) are.as_many ∙ sym (length_push order number);
  each = λ place one there.
      let lt : place < length (sources ++ source ∷ []) = slice_get_within (sources ++ source ∷ []) place one there in
      let long = length_push sources source in
      let here : get_or (sources ++ source ∷ []) place one ≡ one = get_or_from_slice_get (sources ++ source ∷ []) place one one there in
      elim (cases_eq place (length sources)) [
        | inl e ↦
            let last : one ≡ source = sym here ∙ ap (λ (n : ℕ). get_or (sources ++ source ∷ []) n one) e ∙ get_or-append_seam sources source [] one in
            let own : get_or (order ++ number ∷ []) place 0 ≡ number = ap (λ (n : ℕ). get_or (order ++ number ∷ []) n 0) (e ∙ are.as_many) ∙ get_or-append_seam order number [] 0 in
            subst (λ (n : ℕ). IsSourceBegun fronts n one) (sym own) (subst (IsSourceBegun fronts number) (sym last) is)
        | inr other ↦
            let before : place < length sources = omega (arith, lt, long, other) in
            let within : place < length order = omega (arith, before, are.as_many) in
            let same : get_or sources place one ≡ one = sym (get_or_append_left sources (source ∷ []) one place before) ∙ here in
            let own : get_or (order ++ number ∷ []) place 0 ≡ get_or order place 0 = get_or_append_left order (number ∷ []) 0 place within in
            subst (λ (n : ℕ). IsSourceBegun fronts n one) (sym own) (are.each place one (slice_get-get_or sources place one before ∙ ap (λ (s : Source). Some s) same))
      ];
}

-- the same item stands at a place, where what is left from it on is the same
pub same-here : {X : Type 0} (xs ys : List X) (n : ℕ) (d : X) → drop n xs ≡ drop n ys → get_or xs n d ≡ get_or ys n d
same-here {X} xs ys n d same =
    let plus : n + 0 ≡ n = omega arith in
    sym (ap (λ (k : ℕ). get_or xs k d) plus) ∙ sym (get_or-drop n xs 0 d) ∙ ap (λ (l : List X). get_or l 0 d) same ∙ get_or-drop n ys 0 d ∙ ap (λ (k : ℕ). get_or ys k d) plus

-- what is left behind a place at which an item changed
pub rest-more : {X : Type 0} (xs ys : List X) (n : ℕ) (x d : X) → n < length xs → n < length ys → drop n xs ≡ drop n ys → drop (n + 1) (set xs n x) ≡ drop (n + 1) ys
rest-more xs ys n x d lt lt_other same =
    let both : get_or xs n d ∷ drop (n + 1) xs ≡ get_or ys n d ∷ drop (n + 1) ys = sym (drop_more xs n d lt) ∙ same ∙ drop_more ys n d lt_other in
    let tails : drop (n + 1) xs ≡ drop (n + 1) ys = cc in
    drop-set-lt (n + 1) xs n x (omega arith) ∙ tails

-- what holds of the item that is read holds of the one that is there
pub there-by : {X : Type 0} (xs : List X) (n : ℕ) (d : X) (P : X → Type 0) → n < length xs → P (get_or xs n d) → IfSome (slice_get xs n) P
there-by {X} xs n d P lt is = subst (λ (o : Option X). IfSome o P) (sym (slice_get-get_or xs n d lt)) is
