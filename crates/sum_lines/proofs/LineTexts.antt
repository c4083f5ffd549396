-- The text of lines, as it is put together.
use Rattle.std.proofs.Common.{◌≡◌, ℕ, ◌+◌, ◌<◌, List, [], ◌∷◌, ◌++◌, length, map, take, get_or, append_assoc, sym, ap, ◌∙◌, refl}
use Rattle.std.proofs.lemmas.List.{append-nil, map-append, take_more}
use Rattle.std.proofs.lemmas.Grind.{flat_map-append}
use Rattle.row_kit.specs.declared.row.Entry.{Entry}
use Rattle.sum_slots.specs.declared.sum.Sum.{Sum}
use Rattle.sum_lines.specs.declared.line.HeadLine.{HeadLine}
use Rattle.sum_lines.specs.Head.{lines_of, lines_text, sum_lines, term_line}
use Rattle.sum_lines.specs.Line.{head_line_text, words_text}

-- the text of words and one more
words_more : (words : List (List ℕ)) (word : List ℕ) → words_text (words ++ word ∷ []) ≡ words_text words ++ (32 ∷ word)
unfolding words_text
words_more words word = flat_map-append (λ w. 32 ∷ w) words (word ∷ []) ∙ ap (λ w. words_text words ++ w) (append-nil (32 ∷ word))

-- a name that is put
pub put_name : (old name s : List ℕ) → s ≡ old ++ name → s ≡ old ++ (name ++ words_text [])
unfolding words_text
put_name old name s is = is ∙ ap (λ w. old ++ w) (sym (append-nil name))

-- a word that is put after a name and words
pub put_word : (old name s s2 word : List ℕ) (words : List (List ℕ)) → s ≡ old ++ (name ++ words_text words) → s2 ≡ s ++ (32 ∷ word) → s2 ≡ old ++ (name ++ words_text (words ++ word ∷ []))
put_word old name s s2 word words is is2 =
    is2 ∙ ap (λ w. w ++ (32 ∷ word)) is ∙ append_assoc old (name ++ words_text words) (32 ∷ word)
    ∙ ap (λ w. old ++ w) (append_assoc name (words_text words) (32 ∷ word) ∙ ap (λ w. name ++ w) (sym (words_more words word)))

-- a line feed that is put after a text
pub put_feed : (old text s s2 : List ℕ) → s ≡ old ++ text → s2 ≡ s ++ 10 ∷ [] → s2 ≡ old ++ (text ++ 10 ∷ [])
put_feed old text s s2 is is2 = is2 ∙ ap (λ w. w ++ 10 ∷ []) is ∙ append_assoc old text (10 ∷ [])

-- a name, three words and a line feed, put one after another
pub put_three : (old name a b c s1 s2 s3 s4 s5 : List ℕ) → s1 ≡ old ++ name → s2 ≡ s1 ++ (32 ∷ a) → s3 ≡ s2 ++ (32 ∷ b) → s4 ≡ s3 ++ (32 ∷ c) → s5 ≡ s4 ++ 10 ∷ []
    → s5 ≡ old ++ ((name ++ words_text (a ∷ b ∷ c ∷ [])) ++ 10 ∷ [])
put_three old name a b c s1 s2 s3 s4 s5 is1 is2 is3 is4 is5 =
    let p2 = put_word old name s1 s2 a [] (put_name old name s1 is1) is2 in
    let p3 = put_word old name s2 s3 b (a ∷ []) p2 is3 in
    put_feed old (name ++ words_text (a ∷ b ∷ c ∷ [])) s4 s5 (put_word old name s3 s4 c (a ∷ b ∷ []) p3 is4) is5

-- a name, five words and a line feed, put one after another
pub put_five : (old name a b c d e s1 s2 s3 s4 s5 s6 s7 : List ℕ) → s1 ≡ old ++ name → s2 ≡ s1 ++ (32 ∷ a) → s3 ≡ s2 ++ (32 ∷ b) → s4 ≡ s3 ++ (32 ∷ c) → s5 ≡ s4 ++ (32 ∷ d) → s6 ≡ s5 ++ (32 ∷ e) → s7 ≡ s6 ++ 10 ∷ []
    → s7 ≡ old ++ ((name ++ words_text (a ∷ b ∷ c ∷ d ∷ e ∷ [])) ++ 10 ∷ [])
put_five old name a b c d e s1 s2 s3 s4 s5 s6 s7 is1 is2 is3 is4 is5 is6 is7 =
    let p2 = put_word old name s1 s2 a [] (put_name old name s1 is1) is2 in
    let p3 = put_word old name s2 s3 b (a ∷ []) p2 is3 in
    let p4 = put_word old name s3 s4 c (a ∷ b ∷ []) p3 is4 in
    let p5 = put_word old name s4 s5 d (a ∷ b ∷ c ∷ []) p4 is5 in
    put_feed old (name ++ words_text (a ∷ b ∷ c ∷ d ∷ e ∷ [])) s6 s7 (put_word old name s5 s6 e (a ∷ b ∷ c ∷ d ∷ []) p5 is6) is7

-- the text of lines and more
pub lines_text-append : (xs ys : List HeadLine) → lines_text (xs ++ ys) ≡ lines_text xs ++ lines_text ys
unfolding lines_text
lines_text-append xs ys = flat_map-append (λ line. head_line_text line ++ 10 ∷ []) xs ys

-- the text of no lines
pub lines_text-nil : lines_text [] ≡ []
unfolding lines_text
lines_text-nil = refl

-- the text of a line
pub lines_text-one : (line : HeadLine) → lines_text (line ∷ []) ≡ head_line_text line ++ 10 ∷ []
unfolding lines_text
lines_text-one line = append-nil (head_line_text line ++ 10 ∷ [])

-- lines that are put after others
pub put_more : (old s s2 : List ℕ) (xs ys : List HeadLine) → s ≡ old ++ lines_text xs → s2 ≡ s ++ lines_text ys → s2 ≡ old ++ lines_text (xs ++ ys)
put_more old s s2 xs ys is is2 = rw (is2, is, lines_text-append xs ys) (append_assoc old (lines_text xs) (lines_text ys))

-- the lines of one term more
pub terms_next : (terms : List Entry) (i : ℕ) (d : Entry) → i < length terms → map term_line (take (i + 1) terms) ≡ map term_line (take i terms) ++ term_line (get_or terms i d) ∷ []
terms_next terms i d within = ap (map term_line) (take_more terms i d within) ∙ map-append term_line (take i terms) (get_or terms i d ∷ [])

-- the lines of sums and one more
pub lines_of-more : (sums : List Sum) (sum : Sum) → lines_of (sums ++ sum ∷ []) ≡ lines_of sums ++ sum_lines sum
lines_of-more sums sum = flat_map-append sum_lines sums (sum ∷ []) ∙ ap (λ w. lines_of sums ++ w) (append-nil (sum_lines sum))

-- the lines of one sum more
pub sums_next : (sums : List Sum) (i : ℕ) (sum : Sum) → i < length sums → get_or sums i sum ≡ sum → lines_of (take (i + 1) sums) ≡ lines_of (take i sums) ++ sum_lines sum
sums_next sums i sum within is = ap lines_of (take_more sums i sum within ∙ ap (λ t. take i sums ++ t ∷ []) is) ∙ lines_of-more (take i sums) sum

-- nothing that is put
pub put_nothing : (old : List ℕ) → old ≡ old ++ lines_text []
put_nothing old = sym (ap (λ w. old ++ w) lines_text-nil ∙ append-nil old)

-- one term more that is put
pub put_term_more : (old s s2 : List ℕ) (terms : List Entry) (i : ℕ) (d : Entry) → s ≡ old ++ lines_text (map term_line (take i terms)) → s2 ≡ s ++ (head_line_text (term_line (get_or terms i d)) ++ 10 ∷ []) → i < length terms
    → s2 ≡ old ++ lines_text (map term_line (take (i + 1) terms))
put_term_more old s s2 terms i d is is2 within =
    put_more old s s2 (map term_line (take i terms)) (term_line (get_or terms i d) ∷ []) is (is2 ∙ ap (λ w. s ++ w) (sym (lines_text-one (term_line (get_or terms i d)))))
    ∙ ap (λ w. old ++ lines_text w) (sym (terms_next terms i d within))

-- one sum more that is put
pub put_sum_more : (old s s2 : List ℕ) (sums : List Sum) (i : ℕ) (sum : Sum) → s ≡ old ++ lines_text (lines_of (take i sums)) → s2 ≡ s ++ lines_text (sum_lines sum) → i < length sums → get_or sums i sum ≡ sum
    → s2 ≡ old ++ lines_text (lines_of (take (i + 1) sums))
put_sum_more old s s2 sums i sum is is2 within at =
    put_more old s s2 (lines_of (take i sums)) (sum_lines sum) is is2 ∙ ap (λ w. old ++ lines_text w) (sym (sums_next sums i sum within at))

-- a line that is put, and lines after it
pub put_two : (old s s2 : List ℕ) (line : HeadLine) (lines : List HeadLine) → s ≡ old ++ (head_line_text line ++ 10 ∷ []) → s2 ≡ s ++ lines_text lines → s2 ≡ old ++ lines_text (line ∷ lines)
put_two old s s2 line lines is is2 = put_more old s s2 (line ∷ []) lines (is ∙ ap (λ w. old ++ w) (sym (lines_text-one line))) is2
