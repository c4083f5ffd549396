-- What the text of a bar tells of its batch.
use Rattle.std.proofs.Common.{◌≡◌, ℕ, suc, ◌<◌, ◌≤◌, ◌-◌, ◌*◌, ◌/◌, ◌%◌, ◌^◌, max, Bool, true, false, cond, nat_lt, List, [], ◌∷◌, ◌++◌, length, drop, ap, ap₂, sym, subst, ◌∙◌, refl, decimal, codes, inl, inr, arith, div-le_self, not, ◌==◌, append_assoc, append-nil}
use Rattle.std.specs.Char.{is_ascii_hexdigit}
use Rattle.std.specs.Int.{IsInRange}
use Rattle.std.specs.List.{AllByRecursion, list_all}
use Rattle.std.proofs.Math.Nat.{mul-le-mul, div-add-mod, mod-lt}
use Rattle.std.proofs.lemmas.Bool.{and_parts, cases_lt, eqb-true}
use Rattle.std.proofs.lemmas.Fmt.{decimal_injective}
use Rattle.std.proofs.lemmas.List.{get_or_past}
use Rattle.std.proofs.lemmas.List.Elements.{All-get_or, All-weaker, recursion_from_All}
use Rattle.stn_model.specs.declared.plant.Plant.{Plant}
use Rattle.stn_model.specs.declared.plant.Task.{Task}
use Rattle.stn_model.specs.declared.start.Start.{Start}
use Rattle.stn_model.specs.Plant.{task_at, no_task, end_of, duration_of}
use Rattle.stn_model.specs.Sums.{greatest_by}
use Rattle.stn_model.specs.Sound.{Sound, SoundTask, SoundOutput}
use Rattle.stn_model.specs.Labels.{is_colour, SoundColour}
use Rattle.plan_picture.specs.declared.marks.Frame.{Frame}
use Rattle.plan_picture.specs.Captions.{task_caption}
use Rattle.plan_picture.specs.Marks.{escaped, title, frame_at}
use Rattle.plan_picture.specs.Scale.{period_width, x_at}
use Rattle.plan_picture.specs.Bars.{span, class_begin, own_colour, colour_begin, edge_class, size_words, when_words, bar_title, bar_frame, whole_bar, first_place}
use Rattle.plan_picture.specs.Laws.{IsSmall, AreAlike}
use Rattle.plan_picture.proofs.Reading.{Lacks, number_lacks, read_number, read_number_in, cut_in, passed_lacks, lacks_both, count_of, count_behind, cut_counted, escaped_lacks, escaped_told}

-- a colour has no '>'
colour_lacks : (colour : List ℕ) → SoundColour colour → Lacks 62 colour
unfolding is_colour
colour_lacks colour (inl none) = subst (Lacks 62) (sym none) tt
colour_lacks [] (inr good) = tt
colour_lacks (b ∷ bs) (inr good) =
    let parts = and_parts _ _ good in
    let first : b ≡ 35 = eqb-true b 35 (and_parts _ _ parts.0).0 in
    (λ same. omega (arith, first, same), passed_lacks is_ascii_hexdigit 62 refl bs parts.1)

-- nor has what stands for the colour of the task of any number
style_lacks : (some : Bool) (colour : List ℕ) → Lacks 62 colour → Lacks 62 (cond some (codes " style=\"fill:" ++ (colour ++ codes "\"")) [])
style_lacks false colour h = tt
style_lacks true colour h =
    let plain : (text : List ℕ) → list_all (λ c. not (c == 62)) text ≡ true → Lacks 62 text = λ text all. passed_lacks (λ c. not (c == 62)) 62 refl text all in
    lacks_both 62 (codes " style=\"fill:") (colour ++ codes "\"") (plain (codes " style=\"fill:") refl)
    (lacks_both 62 colour (codes "\"") h (plain (codes "\"") refl))

own_lacks : (colour : List ℕ) → Lacks 62 colour → Lacks 62 (own_colour colour)
unfolding own_colour
own_lacks colour h = style_lacks (nat_lt 0 (length colour)) colour h

task_colour_lacks : (plant : Plant) → Sound plant → (task : ℕ) → Lacks 62 (own_colour (task_at plant task).colour)
task_colour_lacks plant sound task = own_lacks (task_at plant task).colour (elim (cases_lt task (length plant.tasks)) [
  | inl less ↦ colour_lacks (task_at plant task).colour (All-get_or (SoundTask plant) plant.tasks task no_task less sound.tasks).colour
  | inr past ↦ subst (λ (t : Task). Lacks 62 t.colour) (sym (get_or_past plant.tasks task no_task past)) tt
])

-- the quantum of the task of any number is small
quantum_small : (plant : Plant) → Sound plant → (task : ℕ) → (task_at plant task).quantum ≤ 1000000
quantum_small plant sound task = elim (cases_lt task (length plant.tasks)) [
  | inl less ↦ (All-get_or (SoundTask plant) plant.tasks task no_task less sound.tasks).quantum.1
  | inr past ↦ subst (λ (t : Task). t.quantum ≤ 1000000) (sym (get_or_past plant.tasks task no_task past)) (omega arith)
]

-- the mass of a batch can be written
mass_small : (plant : Plant) → Sound plant → (start : Start) → IsSmall start → start.quanta * (task_at plant start.task).quantum < 2 ^ 64
mass_small plant sound start small =
    let quanta : start.quanta ≤ 4294967296 = omega (arith, small.3) in
    let most : start.quanta * (task_at plant start.task).quantum ≤ 4294967296 * 1000000 = mul-le-mul quanta (quantum_small plant sound start.task) in
    omega (arith, most)

-- the greatest of numbers that are small is small
greatest_small : {A : Type 0} (f : A → ℕ) (n : ℕ) (xs : List A) → AllByRecursion (λ x. f x ≤ n) xs → greatest_by f xs ≤ n
greatest_small f n [] h = omega arith
greatest_small f n (x ∷ xs) h = omega (arith, h.0, greatest_small f n xs h.1)

-- a batch ends soon after it begins
end_small : (plant : Plant) → Sound plant → (start : Start) → IsSmall start → end_of plant start < 2 ^ 64
unfolding end_of duration_of
end_small plant sound start small =
    let task = task_at plant start.task in
    let longest : duration_of task ≤ 96 = elim (cases_lt start.task (length plant.tasks)) [
      | inl less ↦
          let good = All-get_or (SoundTask plant) plant.tasks start.task no_task less sound.tasks in
          greatest_small (λ output. output.delay) 96 task.outputs
          (recursion_from_All (λ output. output.delay ≤ 96) task.outputs
          (All-weaker (SoundOutput plant task.quantum) (λ output. output.delay ≤ 96) (λ output h. h.delay.1) task.outputs good.output))
      | inr past ↦ subst (λ (t : Task). duration_of t ≤ 96) (sym (get_or_past plant.tasks start.task no_task past)) (omega arith)
    ] in
    omega (arith, longest, small.0)

-- five blanks stand in a title behind the one that follows what its task is called
blanks : (plant : Plant) → Sound plant → (start : Start) → IsSmall start → count_of 32 (size_words plant start ++ when_words plant start) ≡ 5
unfolding size_words when_words
blanks plant sound start small =
    let quanta = decimal start.quanta in
    let mass = decimal (start.quanta * (task_at plant start.task).quantum) in
    let begin = decimal start.period in
    let end = decimal (end_of plant start) in
    let when = codes ", " ++ (begin ++ (codes " to " ++ end)) in
    let number : (n : ℕ) → n < 2 ^ 64 → Lacks 32 (decimal n) = λ n h. number_lacks 32 n h (λ within. omega (arith, within.0)) in
    let one : count_of 32 (end ++ []) ≡ 0 = count_behind 32 end [] (number (end_of plant start) (end_small plant sound start small)) in
    let two : count_of 32 (begin ++ (codes " to " ++ end)) ≡ count_of 32 (codes " to " ++ end) = count_behind 32 begin (codes " to " ++ end) (number start.period (omega (arith, small.0))) in
    let three : count_of 32 (mass ++ when) ≡ count_of 32 when = count_behind 32 mass when (number (start.quanta * (task_at plant start.task).quantum) (mass_small plant sound start small)) in
    let four : count_of 32 (quanta ++ (codes " = " ++ (mass ++ when))) ≡ count_of 32 (codes " = " ++ (mass ++ when)) =
    count_behind 32 quanta (codes " = " ++ (mass ++ when)) (number start.quanta (omega (arith, small.3))) in
    ap (count_of 32) (append_assoc quanta (codes " = " ++ mass) when) ∙ four ∙ ap (λ n. suc (suc n)) (three ∙ ap (λ n. suc n) (two ∙ ap (λ n. suc (suc n)) (ap (count_of 32) (sym (append-nil end)) ∙ one)))

-- the parts of two titles that are equal
pub titles_tell : (plant : Plant) → Sound plant → (a b : Start) → IsSmall a → IsSmall b → bar_title plant a ≡ bar_title plant b → AreAlike plant a b
unfolding bar_title size_words when_words
titles_tell plant sound a b small_a small_b e =
    let mass_a = a.quanta * (task_at plant a.task).quantum in
    let mass_b = b.quanta * (task_at plant b.task).quantum in
    let tail_a = codes ", " ++ (decimal a.period ++ (codes " to " ++ decimal (end_of plant a))) in
    let tail_b = codes ", " ++ (decimal b.period ++ (codes " to " ++ decimal (end_of plant b))) in
    let other : (c : ℕ) → c < 48 → IsInRange 48 57 c → ⊥ = λ c below within. omega (arith, below, within.0) in
    let one = cut_counted 32 (task_caption plant a.task) (task_caption plant b.task) _ _ (blanks plant sound a small_a ∙ sym (blanks plant sound b small_b)) e in
    let two = read_number_in 32 a.quanta b.quanta (codes "= " ++ decimal mass_a) (codes "= " ++ decimal mass_b) tail_a tail_b
    (other 32 (omega arith)) (omega (arith, small_a.3)) (omega (arith, small_b.3)) one.1 in
    let three = read_number 44 mass_a mass_b _ _ (other 44 (omega arith)) (mass_small plant sound a small_a) (mass_small plant sound b small_b) (ap (drop 2) two.1) in
    let four = read_number 32 a.period b.period _ _ (other 32 (omega arith)) (omega (arith, small_a.0)) (omega (arith, small_b.0)) (ap (drop 1) three.1) in
    (one.0, two.0, four.0, decimal_injective _ _ (end_small plant sound a small_a) (end_small plant sound b small_b) (ap (drop 3) four.1))

-- the colour at the front of a text
colour_told : (plant : Plant) → Sound plant → (a b : ℕ) (us vs : List ℕ) → colour_begin plant a ++ us ≡ colour_begin plant b ++ vs → (a % 8 ≡ b % 8) × (us ≡ vs)
unfolding colour_begin class_begin
colour_told plant sound a b us vs e =
    let own_a = own_colour (task_at plant a).colour in
    let own_b = own_colour (task_at plant b).colour in
    let rest_a = own_a ++ codes ">" in
    let rest_b = own_b ++ codes ">" in
    let most : (n : ℕ) → n % 8 < 2 ^ 64 = λ n. omega (arith, mod-lt n {m = 8} (omega arith)) in
    let whole : class_begin a ++ (rest_a ++ us) ≡ class_begin b ++ (rest_b ++ vs) = sym (append_assoc (class_begin a) rest_a us) ∙ e ∙ append_assoc (class_begin b) rest_b vs in
    let class = read_number_in 34 (a % 8) (b % 8) [] [] (rest_a ++ us) (rest_b ++ vs) (λ h. omega (arith, h.0)) (most a) (most b) (ap (drop 11) whole) in
    let own = cut_in 62 own_a own_b [] [] us vs (task_colour_lacks plant sound a) (task_colour_lacks plant sound b) class.1 in
    (class.0, own.1)

-- the title at the front of a text
title_told : (s t us vs : List ℕ) → title s ++ us ≡ title t ++ vs → (s ≡ t) × (us ≡ vs)
unfolding title
title_told s t us vs e =
    let cut = cut_in 60 (escaped s) (escaped t) (codes "/title>\n") (codes "/title>\n") us vs (escaped_lacks s) (escaped_lacks t) (ap (drop 7) e) in
    (escaped_told s t cut.0, ap (drop 8) cut.1)

-- the edge and the height of the frame at the front of a text
frame_told : (a b : ℕ) (f g : Frame) (us vs : List ℕ) → a < 2 ^ 32 → b < 2 ^ 32 → f.x < 2 ^ 64 → g.x < 2 ^ 64 → f.y < 2 ^ 64 → g.y < 2 ^ 64 → frame_at (edge_class a) f ++ us ≡ frame_at (edge_class b) g ++ vs → (a / 8 ≡ b / 8) × (f.y ≡ g.y)
unfolding frame_at edge_class
frame_told a b f g us vs small_a small_b fx gx fy gy e =
    let quote : IsInRange 48 57 34 → ⊥ = λ h. omega (arith, h.0) in
    let one = read_number_in 34 (a / 8) (b / 8) _ _ us vs quote (omega (arith, small_a)) (omega (arith, small_b)) (ap (drop 14) e) in
    let two = read_number_in 34 f.x g.x _ _ us vs quote fx gx (ap (drop 4) one.1) in
    let three = read_number_in 34 f.y g.y _ _ us vs quote fy gy (ap (drop 4) two.1) in
    (one.0, three.0)

-- where a bar begins is small
left_small : (plant : Plant) (band : ℕ) (start : Start) → IsSmall start → x_at plant (first_place band start.period) < 2 ^ 64
unfolding x_at period_width
left_small plant band start small =
    let wide : max 54 (720 / plant.periods) ≤ 1000 = omega (arith, div-le_self 720 plant.periods) in
    let place : start.period - 48 * band ≤ 4294967296 = omega (arith, small.0) in
    let most : (start.period - 48 * band) * max 54 (720 / plant.periods) ≤ 4294967296 * 1000 = mul-le-mul place wide in
    omega (arith, most)

-- two starts of the same numbers
same_start : (a b : Start) → a.period ≡ b.period → a.unit ≡ b.unit → a.task ≡ b.task → a.quanta ≡ b.quanta → a ≡ b
same_start a b period unit task quanta =
    let one : a ≡ record { period = b.period; unit = b.unit; task = a.task; quanta = a.quanta } =
    ap₂ (λ p u. record { period = p; unit = u; task = a.task; quanta = a.quanta }) period unit in
    one ∙ ap₂ (λ t q. record { period = b.period; unit = b.unit; task = t; quanta = q }) task quanta

-- two bars with one text are of one batch
pub bars_alone : (plant : Plant) → Sound plant → (a b : Start) → IsSmall a → IsSmall b → (band : ℕ) → whole_bar plant band a ≡ whole_bar plant band b → a ≡ b
unfolding whole_bar span
bars_alone plant sound a b small_a small_b band e =
    let one = colour_told plant sound a.task b.task _ _ e in
    let two = title_told (bar_title plant a) (bar_title plant b) _ _ one.1 in
    let three = frame_told a.task b.task (bar_frame plant band a) (bar_frame plant band b) _ _ small_a.2 small_b.2
    (left_small plant band a small_a) (left_small plant band b small_b) (omega (arith, small_a.1)) (omega (arith, small_b.1)) two.1 in
    let alike = titles_tell plant sound a b small_a small_b two.0 in
    same_start a b alike.2 (omega (arith, three.1)) (omega (arith, one.0, three.0, div-add-mod a.task 8, div-add-mod b.task 8)) alike.1
