-- The text of lines, as it is put together.
use Rattle.std.proofs.Common.{◌≡◌, ℕ, ℤ, ◌+◌, ◌<◌, List, [], ◌∷◌, ◌++◌, length, map, take, get_or, append_assoc, sym, ap, ◌∙◌, refl}
use Rattle.std.proofs.lemmas.List.{append-nil, map-append, take_more}
use Rattle.std.proofs.lemmas.Grind.{flat_map-append}
use Rattle.derivations.specs.declared.derivation.Derivation.{Derivation}
use Rattle.sum_lines.specs.Line.{words_text}
use Rattle.sum_lines.proofs.LineTexts.{put_feed, put_name, put_word}
use Rattle.derivation_lines.specs.declared.line.TailLine.{TailLine}
use Rattle.derivation_lines.specs.Line.{line_name, line_numbers, numbers_text, tail_line_text}
use Rattle.derivation_lines.specs.Tail.{derivation_lines, lines_of, lines_text, tail_text}

-- the text of lines and more
pub lines_text-append : (xs ys : List TailLine) → lines_text (xs ++ ys) ≡ lines_text xs ++ lines_text ys
unfolding lines_text
lines_text-append xs ys = flat_map-append (λ line. tail_line_text line ++ 10 ∷ []) xs ys

-- the text of no lines
pub lines_text-nil : lines_text [] ≡ []
unfolding lines_text
lines_text-nil = refl

-- the text of a line
pub lines_text-one : (line : TailLine) → lines_text (line ∷ []) ≡ tail_line_text line ++ 10 ∷ []
unfolding lines_text
lines_text-one line = append-nil (tail_line_text line ++ 10 ∷ [])

-- the text of lines and one more
pub lines_text-more : (lines : List TailLine) (line : TailLine) → lines_text (lines ++ line ∷ []) ≡ lines_text lines ++ (tail_line_text line ++ 10 ∷ [])
lines_text-more lines line = lines_text-append lines (line ∷ []) ∙ ap (λ w. lines_text lines ++ w) (lines_text-one line)

-- lines that are put after others
pub put_more : (old s s2 : List ℕ) (xs ys : List TailLine) → s ≡ old ++ lines_text xs → s2 ≡ s ++ lines_text ys → s2 ≡ old ++ lines_text (xs ++ ys)
put_more old s s2 xs ys is is2 = rw (is2, is, lines_text-append xs ys) (append_assoc old (lines_text xs) (lines_text ys))

-- nothing that is put
pub put_nothing : (old : List ℕ) → old ≡ old ++ lines_text []
put_nothing old = sym (ap (λ w. old ++ w) lines_text-nil ∙ append-nil old)

-- a line that is put with its line feed
put_whole : (old s text : List ℕ) (line : TailLine) → s ≡ old ++ (text ++ 10 ∷ []) → tail_line_text line ≡ text → s ≡ old ++ lines_text (line ∷ [])
put_whole old s text line is same = is ∙ ap (λ w. old ++ (w ++ 10 ∷ [])) (sym same) ∙ ap (λ w. old ++ w) (sym (lines_text-one line))

-- a name and numbers, put with the line feed: the line of that name with these numbers
pub put_named_line : (old s name : List ℕ) (numbers : List ℤ) (line : TailLine) → s ≡ old ++ ((name ++ numbers_text numbers) ++ 10 ∷ []) → line_name line ≡ name → line_numbers line ≡ numbers → s ≡ old ++ lines_text (line ∷ [])
unfolding tail_line_text
put_named_line old s name numbers line is named same = put_whole old s (name ++ numbers_text numbers) line is (ap (λ w. w ++ numbers_text (line_numbers line)) named ∙ ap (λ ns. name ++ numbers_text ns) same)

-- a name, two words and a line feed, put one after another
pub put_two_words : (old name a b s1 s2 s3 s4 : List ℕ) → s1 ≡ old ++ name → s2 ≡ s1 ++ (32 ∷ a) → s3 ≡ s2 ++ (32 ∷ b) → s4 ≡ s3 ++ 10 ∷ [] → s4 ≡ old ++ ((name ++ words_text (a ∷ b ∷ [])) ++ 10 ∷ [])
put_two_words old name a b s1 s2 s3 s4 is1 is2 is3 is4 =
    let p2 = put_word old name s1 s2 a [] (put_name old name s1 is1) is2 in
    put_feed old (name ++ words_text (a ∷ b ∷ [])) s3 s4 (put_word old name s2 s3 b (a ∷ []) p2 is3) is4

-- a name, seven words and a line feed, put one after another
pub put_seven_words : (old name a b c d e f g s1 s2 s3 s4 s5 s6 s7 s8 s9 : List ℕ) → s1 ≡ old ++ name → s2 ≡ s1 ++ (32 ∷ a) → s3 ≡ s2 ++ (32 ∷ b) → s4 ≡ s3 ++ (32 ∷ c) → s5 ≡ s4 ++ (32 ∷ d) → s6 ≡ s5 ++ (32 ∷ e) → s7 ≡ s6 ++ (32 ∷ f)
    → s8 ≡ s7 ++ (32 ∷ g) → s9 ≡ s8 ++ 10 ∷ [] → s9 ≡ old ++ ((name ++ words_text (a ∷ b ∷ c ∷ d ∷ e ∷ f ∷ g ∷ [])) ++ 10 ∷ [])
put_seven_words old name a b c d e f g s1 s2 s3 s4 s5 s6 s7 s8 s9 is1 is2 is3 is4 is5 is6 is7 is8 is9 =
    let p2 = put_word old name s1 s2 a [] (put_name old name s1 is1) is2 in
    let p3 = put_word old name s2 s3 b (a ∷ []) p2 is3 in
    let p4 = put_word old name s3 s4 c (a ∷ b ∷ []) p3 is4 in
    let p5 = put_word old name s4 s5 d (a ∷ b ∷ c ∷ []) p4 is5 in
    let p6 = put_word old name s5 s6 e (a ∷ b ∷ c ∷ d ∷ []) p5 is6 in
    let p7 = put_word old name s6 s7 f (a ∷ b ∷ c ∷ d ∷ e ∷ []) p6 is7 in
    put_feed old (name ++ words_text (a ∷ b ∷ c ∷ d ∷ e ∷ f ∷ g ∷ [])) s8 s9 (put_word old name s7 s8 g (a ∷ b ∷ c ∷ d ∷ e ∷ f ∷ []) p7 is8) is9

-- the line of one thing more that is put
pub put_next : {X : Type 0} (text_line : X → TailLine) (old s s2 : List ℕ) (xs : List X) (i : ℕ) (d : X) → s ≡ old ++ lines_text (map text_line (take i xs)) → s2 ≡ s ++ lines_text (text_line (get_or xs i d) ∷ []) → i < length xs
    → s2 ≡ old ++ lines_text (map text_line (take (i + 1) xs))
put_next text_line old s s2 xs i d is is2 within =
    put_more old s s2 (map text_line (take i xs)) (text_line (get_or xs i d) ∷ []) is is2
    ∙ ap (λ w. old ++ lines_text w) (sym (ap (map text_line) (take_more xs i d within) ∙ map-append text_line (take i xs) (get_or xs i d ∷ [])))

-- one derivation more that is put
pub put_derivation_more : (old s s2 : List ℕ) (ds : List Derivation) (i : ℕ) (d : Derivation) → s ≡ old ++ tail_text (take i ds) → s2 ≡ s ++ lines_text (derivation_lines d) → i < length ds → get_or ds i d ≡ d → s2 ≡ old ++ tail_text (take (i + 1) ds)
put_derivation_more old s s2 ds i d is is2 within at =
    put_more old s s2 (lines_of (take i ds)) (derivation_lines d) is is2
    ∙ ap (λ w. old ++ lines_text w) (sym (ap lines_of (take_more ds i d within ∙ ap (λ t. take i ds ++ t ∷ []) at) ∙ flat_map-append derivation_lines (take i ds) (d ∷ []) ∙ ap (λ w. lines_of (take i ds) ++ w) (append-nil (derivation_lines d))))

-- the lines of a row that are put: its own, then those of its factors, its groups and its entries
pub put_parts : (old s1 s2 s3 s4 : List ℕ) (line : TailLine) (fs gs es : List TailLine) → s1 ≡ old ++ lines_text (line ∷ []) → s2 ≡ s1 ++ lines_text fs → s3 ≡ s2 ++ lines_text gs → s4 ≡ s3 ++ lines_text es → s4 ≡ old ++ lines_text (line ∷ (fs ++ (gs ++ es)))
put_parts old s1 s2 s3 s4 line fs gs es is1 is2 is3 is4 =
    let p2 = put_more old s1 s2 (line ∷ []) fs is1 is2 in
    let p3 = put_more old s2 s3 (line ∷ fs) gs p2 is3 in
    put_more old s3 s4 (line ∷ (fs ++ gs)) es p3 is4 ∙ ap (λ w. old ++ lines_text (line ∷ w)) (append_assoc fs gs es)
