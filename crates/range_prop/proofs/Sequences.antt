-- Cuts made one after another: what they keep, and that each takes a value away.
use Rattle.std.proofs.Common.{◌≡◌, ℕ, ◌+◌, ◌-◌, ◌<◌, ◌≤◌, List, [], ◌∷◌, ◌++◌, length, set, take, refl, sym, ap, ◌∙◌, subst, arith, append_assoc}
use Rattle.std.specs.List.{All, sum_by}
use Rattle.std.proofs.lemmas.List.{append-nil, length-append, length-set, length-take, take-append-le, take-take, take_all}
use Rattle.std.proofs.lemmas.List.Elements.{All-set}
use Rattle.std.proofs.lemmas.List.Sums.{sum_by-set}
use Rattle.row_kit.specs.declared.domain.Domain.{Domain}
use Rattle.row_kit.specs.declared.row.Row.{Row}
use Rattle.row_kit.specs.Area.{present}
use Rattle.row_kit.specs.Domain.{IsNormal, count_of, no_values}
use Rattle.row_kit.specs.Point.{LiesIn}
use Rattle.row_kit.specs.Points.{points_of}
use Rattle.row_kit.specs.Row.{IsKept, no_row, row_at}
use Rattle.row_kit.proofs.Marks.{present-with_domain, take-with_domain}
use Rattle.range_prop.specs.declared.row_cut.RowCut.{RowCut}
use Rattle.range_prop.specs.Cut.{cut_domain}
use Rattle.range_prop.specs.Cuts.{AreMade, HasCut, IsMade, after_cut, after_cuts}
use Rattle.range_prop.proofs.CutLaws.{cut_fewer, cut_keeps, cut_normal, cut_points}

pub after_cuts-append : (rows : List Row) (xs ys : List RowCut) (marks : List (List Domain)) → after_cuts rows (xs ++ ys) marks ≡ after_cuts rows ys (after_cuts rows xs marks)
after_cuts-append rows [] ys marks = refl
after_cuts-append rows (x ∷ xs) ys marks = after_cuts-append rows xs ys (after_cut rows x marks)

AreMade-append : (rows : List Row) (xs ys : List RowCut) (marks : List (List Domain)) → AreMade rows xs marks → AreMade rows ys (after_cuts rows xs marks) → AreMade rows (xs ++ ys) marks
AreMade-append rows [] ys marks first second = second
AreMade-append rows (x ∷ xs) ys marks first second = (first.0, AreMade-append rows xs ys (after_cut rows x marks) first.1 second)

-- no cut, one cut, and cuts after cuts
pub HasCut-none : (rows : List Row) (marks : List (List Domain)) (xs : List RowCut) → HasCut rows marks marks xs xs
HasCut-none rows marks xs = record { made = []; listed = sym (append-nil xs); led = refl; each = tt }

pub HasCut-one : (rows : List Row) (marks : List (List Domain)) (xs : List RowCut) (cut : RowCut) → IsMade rows cut (present marks) → HasCut rows marks (after_cut rows cut marks) xs (xs ++ cut ∷ [])
HasCut-one rows marks xs cut one = record { made = cut ∷ []; listed = refl; led = refl; each = (one, tt) }

pub HasCut-then : (rows : List Row) (a b c : List (List Domain)) (x y z : List RowCut) → HasCut rows a b x y → HasCut rows b c y z → HasCut rows a c x z
HasCut-then rows a b c x y z first second = record {
  made = first.made ++ second.made;
  listed = second.listed ∙ ap (λ (w : List RowCut). w ++ second.made) first.listed ∙ append_assoc x first.made second.made;
  led = second.led ∙ ap (after_cuts rows second.made) first.led ∙ sym (after_cuts-append rows first.made second.made a);
  each = AreMade-append rows first.made second.made a first.each (subst (AreMade rows second.made) first.led second.each);
}

-- the present domains after a cut
pub present-after_cut : (rows : List Row) (cut : RowCut) (marks : List (List Domain)) → cut.slot < length (present marks) → present (after_cut rows cut marks) ≡ set (present marks) cut.slot (cut_domain (row_at rows cut.row) cut.slot (present marks))
present-after_cut rows cut marks lt = present-with_domain marks cut.slot (cut_domain (row_at rows cut.row) cut.slot (present marks)) lt

-- what one list keeps of another, a third keeps of it too
pub take-then : {X : Type 0} (a b c : List X) → take (length a) b ≡ a → take (length b) c ≡ b → take (length a) c ≡ a
take-then a b c first second =
    let shorter : length a ≤ length b = omega (arith, ap length first, length-take (length a) b) in
    sym (take-take (length a) (length b) c shorter) ∙ ap (take (length a)) second ∙ first

after-keeps : (rows : List Row) (cuts : List RowCut) (marks : List (List Domain)) → take (length marks) (after_cuts rows cuts marks) ≡ marks
after-keeps rows [] marks = take_all (length marks) marks (omega arith)
after-keeps rows (cut ∷ cuts) marks =
    take-then marks (after_cut rows cut marks) (after_cuts rows cuts (after_cut rows cut marks)) (take-with_domain marks cut.slot (cut_domain (row_at rows cut.row) cut.slot (present marks))) (after-keeps rows cuts (after_cut rows cut marks))

pub HasCut-keeps : (rows : List Row) (a b : List (List Domain)) (x y : List RowCut) → HasCut rows a b x y → take (length a) b ≡ a
HasCut-keeps rows a b x y h = ap (take (length a)) h.led ∙ after-keeps rows h.made a

pub HasCut-lists : (rows : List Row) (a b : List (List Domain)) (x y : List RowCut) → HasCut rows a b x y → take (length x) y ≡ x
HasCut-lists rows a b x y h = ap (take (length x)) h.listed ∙ take-append-le (length x) x h.made (omega arith) ∙ take_all (length x) x (omega arith)

-- the number of slots stays
after-slots : (rows : List Row) (cuts : List RowCut) (marks : List (List Domain)) → AreMade rows cuts marks → length (present (after_cuts rows cuts marks)) ≡ length (present marks)
after-slots rows [] marks each = refl
after-slots rows (cut ∷ cuts) marks each =
    after-slots rows cuts (after_cut rows cut marks) each.1
    ∙ ap length (present-after_cut rows cut marks each.0.slot)
    ∙ length-set (present marks) cut.slot (cut_domain (row_at rows cut.row) cut.slot (present marks))

pub HasCut-slots : (rows : List Row) (a b : List (List Domain)) (x y : List RowCut) → HasCut rows a b x y → length (present b) ≡ length (present a)
HasCut-slots rows a b x y h = ap (λ (m : List (List Domain)). length (present m)) h.led ∙ after-slots rows h.made a h.each

-- each domain stays normal
after-normal : (rows : List Row) (cuts : List RowCut) (marks : List (List Domain)) → AreMade rows cuts marks → All IsNormal (present marks) → All IsNormal (present (after_cuts rows cuts marks))
after-normal rows [] marks each normal' = normal'
after-normal rows (cut ∷ cuts) marks each normal' =
    let one = cut_domain (row_at rows cut.row) cut.slot (present marks) in
    let kept = cut_normal (row_at rows cut.row) cut.slot (present marks) (normal' cut.slot no_values each.0.slot) in
    after-normal rows cuts (after_cut rows cut marks) each.1
    (subst (All IsNormal) (sym (present-after_cut rows cut marks each.0.slot)) (All-set IsNormal (present marks) cut.slot one kept normal'))

pub HasCut-normal : (rows : List Row) (a b : List (List Domain)) (x y : List RowCut) → HasCut rows a b x y → All IsNormal (present a) → All IsNormal (present b)
HasCut-normal rows a b x y h normal' = subst (λ (m : List (List Domain)). All IsNormal (present m)) (sym h.led) (after-normal rows h.made a h.each normal')

-- each point that keeps the rows stays
after-points : (rows : List Row) (n : ℕ) (cuts : List RowCut) (marks : List (List Domain)) (p : List ℕ) → All (λ row. All (λ e. e.slot < n) row.entries) rows → length (present marks) ≡ n → AreMade rows cuts marks → All IsNormal (present marks) → LiesIn (present marks) p → All (IsKept p) rows → LiesIn (present (after_cuts rows cuts marks)) p
after-points rows n [] marks p named many each normal' lies kept = lies
after-points rows n (cut ∷ cuts) marks p named many each normal' lies kept =
    let row = row_at rows cut.row in
    let one = cut_domain row cut.slot (present marks) in
    let after = present-after_cut rows cut marks each.0.slot in
    let here = subst (λ (m : ℕ). All (λ e. e.slot < m) row.entries) (sym many) (named cut.row no_row each.0.row) in
    let stays = cut_keeps row cut.slot (present marks) p each.0.slot (normal' cut.slot no_values each.0.slot) here lies (kept cut.row no_row each.0.row) in
    let normal2 = All-set IsNormal (present marks) cut.slot one (cut_normal row cut.slot (present marks) (normal' cut.slot no_values each.0.slot)) normal' in
    after-points rows n cuts (after_cut rows cut marks) p named (ap length after ∙ length-set (present marks) cut.slot one ∙ many) each.1 (subst (All IsNormal) (sym after) normal2) (subst (λ (ds : List Domain). LiesIn ds p) (sym after) stays) kept

pub HasCut-points : (rows : List Row) (n : ℕ) (a b : List (List Domain)) (x y : List RowCut) (p : List ℕ) → HasCut rows a b x y → All (λ row. All (λ e. e.slot < n) row.entries) rows → length (present a) ≡ n → All IsNormal (present a) → LiesIn (present a) p → All (IsKept p) rows → LiesIn (present b) p
HasCut-points rows n a b x y p h named many normal' lies kept = subst (λ (m : List (List Domain)). LiesIn (present m) p) (sym h.led) (after-points rows n h.made a p named many h.each normal' lies kept)

-- each cut takes a value away
after-fewer : (rows : List Row) (cuts : List RowCut) (marks : List (List Domain)) → AreMade rows cuts marks → All IsNormal (present marks) → sum_by count_of (present (after_cuts rows cuts marks)) + length cuts ≤ sum_by count_of (present marks)
after-fewer rows [] marks each normal' = omega arith
after-fewer rows (cut ∷ cuts) marks each normal' =
    let row = row_at rows cut.row in
    let ds = present marks in
    let one = cut_domain row cut.slot ds in
    let after = present-after_cut rows cut marks each.0.slot in
    let normal2 = All-set IsNormal ds cut.slot one (cut_normal row cut.slot ds (normal' cut.slot no_values each.0.slot)) normal' in
    let rest = after-fewer rows cuts (after_cut rows cut marks) each.1 (subst (All IsNormal) (sym after) normal2) in
    let less = cut_fewer row cut.slot ds (normal' cut.slot no_values each.0.slot) each.0.less in
    omega (arith, rest, less, sum_by-set count_of ds cut.slot one no_values each.0.slot, ap (sum_by count_of) after)

pub HasCut-fewer : (rows : List Row) (a b : List (List Domain)) (x y : List RowCut) → HasCut rows a b x y → All IsNormal (present a) → sum_by count_of (present b) + (length y - length x) ≤ sum_by count_of (present a)
HasCut-fewer rows a b x y h normal' =
    let less = after-fewer rows h.made a h.each normal' in
    let same = ap (λ (m : List (List Domain)). sum_by count_of (present m)) h.led in
    omega (arith, less, same, ap length h.listed, length-append x h.made)

-- and none adds a point
after-points_le : (rows : List Row) (cuts : List RowCut) (marks : List (List Domain)) → AreMade rows cuts marks → All IsNormal (present marks) → points_of (present (after_cuts rows cuts marks)) ≤ points_of (present marks)
after-points_le rows [] marks each normal' = omega arith
after-points_le rows (cut ∷ cuts) marks each normal' =
    let row = row_at rows cut.row in
    let ds = present marks in
    let one = cut_domain row cut.slot ds in
    let was = normal' cut.slot no_values each.0.slot in
    let after = present-after_cut rows cut marks each.0.slot in
    let normal2 = All-set IsNormal ds cut.slot one (cut_normal row cut.slot ds was) normal' in
    let rest = after-points_le rows cuts (after_cut rows cut marks) each.1 (subst (All IsNormal) (sym after) normal2) in
    omega (arith, rest, cut_points row cut.slot ds was, ap points_of after)

pub HasCut-points_le : (rows : List Row) (a b : List (List Domain)) (x y : List RowCut) → HasCut rows a b x y → All IsNormal (present a) → points_of (present b) ≤ points_of (present a)
HasCut-points_le rows a b x y h normal' =
    subst (λ (m : List (List Domain)). points_of (present m) ≤ points_of (present a)) (sym h.led) (after-points_le rows h.made a h.each normal')
