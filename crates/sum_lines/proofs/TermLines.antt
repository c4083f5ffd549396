-- The terms of a sum, line by line.
use Rattle.std.proofs.Common.{◌≡◌, ◌⊎◌, inl, inr, ℕ, zero, suc, ◌+◌, ◌-◌, ◌<◌, ◌≤◌, true, false, All, List, [], ◌∷◌, ◌++◌, length, map, get_or, Option, Some, None, IfSome, unsigned_abs, subst, sym, ap, ◌∙◌, refl, arith, append_assoc}
use Rattle.std.proofs.lemmas.Bool.Decides.{nat_tests}
use Rattle.std.proofs.lemmas.List.{map-append}
use Rattle.std.proofs.lemmas.List.Elements.{All-append, All-cons}
use Rattle.std.specs.List.Sorted.{IsStrictlyIncreasing}
use Rattle.log_lines.specs.Grammar.{follows}
use Rattle.row_kit.specs.Row.{is_nothing}
use Rattle.row_kit.specs.declared.row.Entry.{Entry}
use Rattle.stn_edge.specs.Files.{FileMap, file_of}
use Rattle.sum_lines.specs.declared.line.HeadLine.{HeadLine}
use Rattle.sum_lines.specs.declared.line.HeadLine.TheVariants as line
use Rattle.sum_lines.specs.declared.walk.Seen.{Seen}
use Rattle.sum_lines.specs.declared.walk.Seen.TheVariants as seen
use Rattle.sum_lines.specs.declared.walk.Walk.{Walk}
use Rattle.sum_lines.specs.Front.{BeginsWith, IsBadTerm, MayFollow}
use Rattle.sum_lines.specs.Head.{AreTerms, last_slot, term_line, text_with}
use Rattle.sum_lines.specs.Line.{IsHeadLine, head_line_text}
use Rattle.sum_lines.specs.laws.Walk.{HasBadTerm, HasPassed, HasSeen, IsFar, IsTermAbove, IsTermKind, rest_after}
use Rattle.sum_lines.proofs.Feeds.{begins_line, line_late, text_fits, text_unique}
use Rattle.sum_lines.proofs.Walks.{passed_file, rest_is, text_with_more}

-- the line that a walk has passed stood first in what was left
pub line_first : (version : ℕ) (lines : List HeadLine) (line : HeadLine) (file : List ℕ) → file ≡ text_with version (lines ++ line ∷ []) ++ rest_after version (lines ++ line ∷ []) file → rest_after version lines file ≡ head_line_text line ++ 10 ∷ rest_after version (lines ++ line ∷ []) file
line_first version lines line file is =
    let r : List ℕ = rest_after version (lines ++ line ∷ []) file in
    let t : List ℕ = head_line_text line in
    rest_is version lines file (t ++ 10 ∷ r)
    (is ∙ ap (λ w. w ++ r) (text_with_more version lines line) ∙ append_assoc (text_with version lines) (t ++ 10 ∷ []) r ∙ ap (λ w. text_with version lines ++ w) (append_assoc t (10 ∷ []) r))

-- a line that stands first where another line of a head does is that
pub first_same : (a b : HeadLine) (bytes after : List ℕ) → IsHeadLine a → IsHeadLine b → bytes ≡ head_line_text b ++ 10 ∷ after → BeginsWith (head_line_text a) bytes → a ≡ b
first_same a b bytes after is is2 next first = text_unique a b is is2 (begins_line (head_line_text a) (head_line_text b) bytes after (text_fits a is).0 (text_fits b is2).0 next first)

-- a line that may follow may be written
may_follow_line : (above : Option ℕ) (line : HeadLine) → MayFollow above line → IsHeadLine line
may_follow_line above (line.Sum _ _ _ _ _) may = absurd may
may_follow_line above (line.Term _ _ _) may = may.0

-- the defect of a slot that is not there
far_bad : (slots : ℕ) (above : Option ℕ) (bytes after : List ℕ) (kind : ℕ) (line : HeadLine) → bytes ≡ head_line_text line ++ 10 ∷ after → kind ≡ 5 → MayFollow above line → IsFar slots line → IsBadTerm slots above bytes kind
far_bad slots above bytes after kind (line.Sum _ _ _ _ _) next is may far = absurd may
far_bad slots above bytes after kind (line.Term slot fixed per) next is may far =
    inr (inr (record { kind_is = is; slot = slot; fixed = fixed; per = per; may_follow = may; first = record { after = after; is = next }; far = far }))

-- the defect of a line of a head that stands where a term is to come
line_bad : (slots : ℕ) (above : Option ℕ) (bytes after : List ℕ) (kind : ℕ) (line : HeadLine) → bytes ≡ head_line_text line ++ 10 ∷ after → IsHeadLine line → ((kind ≡ 1) × (¬ MayFollow above line)) ⊎ ((kind ≡ 5) × MayFollow above line × IsFar slots line)
    → IsBadTerm slots above bytes kind
line_bad slots above bytes after kind line next is (inl other) =
    inr (inl (
      other.0,
      line_late (head_line_text line) bytes after next,
      λ line2 may first. other.1 (subst (MayFollow above) (first_same line2 line bytes after (may_follow_line above line2 may) is next first) may),
    ))
line_bad slots above bytes after kind line next is (inr far) = far_bad slots above bytes after kind line next far.0 far.1 far.2

-- the same of what is seen, where the store may not tell the file
bad_told : (files : Option FileMap) (name : List ℕ) (version : ℕ) (lines : List HeadLine) (walk walk2 : Walk) (shown : Seen) (slots : ℕ) (above : Option ℕ) (kind : ℕ) → HasPassed files name version lines walk → HasSeen files name version lines walk2 shown → IsTermKind slots above shown kind
    → IfSome files (λ m. (file_of m name ≡ text_with version lines ++ rest_after version lines (file_of m name)) × IsBadTerm slots above (rest_after version lines (file_of m name)) kind)
bad_told None name version lines walk walk2 shown slots above kind passed has is = tt
bad_told (Some m) name version lines walk walk2 (seen.Line line) slots above kind passed has is =
    let file = file_of m name in
    (passed_file m name version lines walk passed, line_bad slots above (rest_after version lines file) (rest_after version (lines ++ line ∷ []) file) kind line (line_first version lines line file (passed_file m name version (lines ++ line ∷ []) walk2 has.1)) has.0 is)
bad_told (Some m) name version lines walk walk2 seen.Other slots above kind passed has is = (passed_file m name version lines walk passed, inr (inl (is, has.0, λ line may first. has.1 line (may_follow_line above line may) first)))
bad_told (Some m) name version lines walk walk2 seen.Cut slots above kind passed has is = (passed_file m name version lines walk passed, inl (is, has))

-- the defect of what is seen where a term is to come
pub term_bad : (files : Option FileMap) (name : List ℕ) (version : ℕ) (lines : List HeadLine) (walk walk2 : Walk) (shown : Seen) (slots : ℕ) (above : Option ℕ) (kind : ℕ) → HasPassed files name version lines walk → HasSeen files name version lines walk2 shown → IsTermKind slots above shown kind
    → HasBadTerm files name version slots above lines (record { line = walk.line; kind = kind })
term_bad files name version lines walk walk2 shown slots above kind passed has is = record { line = passed.line; told = bad_told files name version lines walk walk2 shown slots above kind passed has is }

-- ---- terms one after another

-- the last slot after one term more
pub last_slot-more : (above : Option ℕ) (terms : List Entry) (term : Entry) → last_slot above (terms ++ term ∷ []) ≡ Some term.slot
last_slot-more above [] term = refl
last_slot-more above (t ∷ terms) term = last_slot-more (Some t.slot) terms term

-- the last slot by its place
pub last_at : (above : Option ℕ) (terms : List Entry) → 0 < length terms → last_slot above terms ≡ Some (get_or (map (λ t. t.slot) terms) (length terms - 1) 0)
last_at above [] some = absurd (omega arith)
last_at above (t ∷ []) some = refl
last_at above (t ∷ u ∷ terms) some =
    let next : length (t ∷ u ∷ terms) - 1 ≡ suc (length (u ∷ terms) - 1) = omega arith in
    last_at (Some t.slot) (u ∷ terms) (omega arith) ∙ ap (λ k. Some (get_or (map (λ t. t.slot) (t ∷ u ∷ terms)) k 0)) (sym next)

-- a number that follows the last is above it
pub follows_above : (above : Option ℕ) (last number : ℕ) → above ≡ Some last → follows above number ≡ true → last < number
follows_above None last number is tells = cc
follows_above (Some n) last number is tells = let same : n ≡ last = cc in grind (arith, nat_tests)

-- ascending numbers and one more above the last
asc_more : (xs : List ℕ) (x : ℕ) → ((k : ℕ) → suc k < length xs → get_or xs k 0 < get_or xs (suc k) 0) → (0 < length xs → get_or xs (length xs - 1) 0 < x) → (k : ℕ) → suc k < length (xs ++ x ∷ [])
    → get_or (xs ++ x ∷ []) k 0 < get_or (xs ++ x ∷ []) (suc k) 0
asc_more [] x asc above k within = absurd (omega arith)
asc_more (y ∷ []) x asc above zero within = above (omega arith)
asc_more (y ∷ []) x asc above (suc k) within = absurd (omega arith)
asc_more (y ∷ z ∷ ys) x asc above zero within = asc 0 (omega arith)
asc_more (y ∷ z ∷ ys) x asc above (suc k) within =
    let next : length (y ∷ z ∷ ys) - 1 ≡ suc (length (z ∷ ys) - 1) = omega arith in
    asc_more (z ∷ ys) x (λ j w. asc (suc j) (omega arith)) (λ some. subst (λ n. get_or (y ∷ z ∷ ys) n 0 < x) next (above (omega arith))) k (omega arith)

pub ascending_more : (xs : List ℕ) (x : ℕ) → IsStrictlyIncreasing xs → (0 < length xs → get_or xs (length xs - 1) 0 < x) → IsStrictlyIncreasing (xs ++ x ∷ [])
ascending_more xs x ascending above = λ k within.
    let one : suc k ≡ k + 1 = omega arith in
    subst (λ n. get_or (xs ++ x ∷ []) k 0 < get_or (xs ++ x ∷ []) n 0) one
    (asc_more xs x (λ j w. let next : j + 1 ≡ suc j = omega arith in subst (λ n. get_or xs j 0 < get_or xs n 0) next (ascending j (omega arith))) above k (omega arith))

-- as many slots as terms
slots_long : (terms : List Entry) → length (map (λ (t : Entry). t.slot) terms) ≡ length terms
slots_long [] = refl
slots_long (t ∷ terms) = ap suc (slots_long terms)

-- the slots of terms and one more
slots_more : (terms : List Entry) (term : Entry) → IsStrictlyIncreasing (map (λ (t : Entry). t.slot) terms) → follows (last_slot None terms) term.slot ≡ true → IsStrictlyIncreasing (map (λ (t : Entry). t.slot) (terms ++ term ∷ []))
slots_more terms term ascending tells =
    let slots : List ℕ = map (λ (t : Entry). t.slot) terms in
    let long : length slots ≡ length terms = slots_long terms in
    subst IsStrictlyIncreasing (sym (map-append (λ (t : Entry). t.slot) terms (term ∷ [])))
    (ascending_more slots term.slot ascending
    (λ some. let place : length terms - 1 ≡ length slots - 1 = ap (λ n. n - 1) (sym long) in
    follows_above (last_slot None terms) (get_or slots (length slots - 1) 0) term.slot (last_at None terms (omega arith) ∙ ap (λ k. Some (get_or slots k 0)) place) tells))

pub one : {X : Type 0} (P : X → Type 0) (x : X) → P x → All P (x ∷ [])
one P x is = All-cons P x [] is (λ k d within. absurd (omega arith))

-- terms and one more above the last slot
pub terms_more : (slots : ℕ) (terms : List Entry) (term : Entry) → AreTerms slots terms → IsTermAbove slots (last_slot None terms) term → AreTerms slots (terms ++ term ∷ [])
terms_more slots terms term are is = record {
  count = All-append (λ t. is_nothing (t.fixed, t.per) ≡ false) terms (term ∷ []) are.count (one (λ (t : Entry). is_nothing (t.fixed, t.per) ≡ false) term is.counts);
  bounded = record {
    named = All-append (λ t. t.slot < slots) terms (term ∷ []) are.bounded.named (one (λ (t : Entry). t.slot < slots) term is.there);
    ascending = slots_more terms term are.bounded.ascending is.above_last;
    fixed_small = All-append (λ t. unsigned_abs t.fixed ≤ 10000000) terms (term ∷ []) are.bounded.fixed_small (one (λ (t : Entry). unsigned_abs t.fixed ≤ 10000000) term is.fixed);
    per_small = All-append (λ t. unsigned_abs t.per ≤ 10000000) terms (term ∷ []) are.bounded.per_small (one (λ (t : Entry). unsigned_abs t.per ≤ 10000000) term is.per);
  };
}

-- a walk that has passed one term more
pub passed_more : (files : Option FileMap) (name : List ℕ) (version : ℕ) (lines : List HeadLine) (terms : List Entry) (term : Entry) (walk : Walk) → HasPassed files name version ((lines ++ map term_line terms) ++ term_line term ∷ []) walk → HasPassed files name version (lines ++ map term_line (terms ++ term ∷ [])) walk
passed_more files name version lines terms term walk passed =
    subst (λ ls. HasPassed files name version ls walk) (append_assoc lines (map term_line terms) (term_line term ∷ []) ∙ ap (λ w. lines ++ w) (sym (map-append term_line terms (term ∷ [])))) passed
