-- What a look at one row leaves to the others.
use Rattle.std.proofs.Common.{◌≡◌, ℕ, ◌+◌, ◌*◌, ◌-◌, ◌<◌, ◌≤◌, Bool, true, false, List, [], ◌∷◌, length, get_or, take, drop, refl, sym, ap, ◌∙◌, subst, ⊎_elim, arith}
use Rattle.std.specs.List.{All, Contains, count_by, sum_by}
use Rattle.std.proofs.lemmas.Bool.{cases_eq, false≢true}
use Rattle.std.proofs.lemmas.List.{drop_at, length-append, length-set, nil_from_length, take_all}
use Rattle.std.proofs.lemmas.List.Elements.{All-cons, All-head, All-nil, All-set, All-tail}
use Rattle.std.proofs.lemmas.List.Sums.{count_by-le-length}
use Rattle.row_kit.specs.Row.{row_at}
use Rattle.row_kit.specs.declared.domain.Domain.{Domain}
use Rattle.row_kit.specs.declared.row.Row.{Row}
use Rattle.row_kit.specs.Area.{present}
use Rattle.row_kit.specs.Domain.{IsNormal, count_of, no_values}
use Rattle.range_prop.specs.declared.row_cut.RowCut.{RowCut}
use Rattle.range_prop.specs.Cut.{cut_domain}
use Rattle.range_prop.specs.Cuts.{AreMade, HasCut, HasRoom, HaveRoomBut, after_cut, after_cuts}
use Rattle.range_prop.specs.Index.{IsIndex, list_of}
use Rattle.range_prop.specs.laws.Queue.{AreAwake, AreQuiet, waits}
use Rattle.range_prop.proofs.CutLaws.{cut_normal, cut_within}
use Rattle.range_prop.proofs.Entries.{IsWithout}
use Rattle.range_prop.proofs.Listed.{without_listed}
use Rattle.range_prop.proofs.Rooms.{HasRoom-without}
use Rattle.range_prop.proofs.Sequences.{HasCut-fewer, present-after_cut}

-- a row keeps its room through cuts at slots that it doesn't name
after_room : (rows : List Row) (row : Row) (cuts : List RowCut) (marks : List (List Domain)) → AreMade rows cuts marks → All IsNormal (present marks) → All (λ c. IsWithout row.entries c.slot) cuts → HasRoom (present marks) row → HasRoom (present (after_cuts rows cuts marks)) row
after_room rows row [] marks each normal' without room = room
after_room rows row (cut ∷ cuts) marks each normal' without room =
    let ds = present marks in
    let cutter = row_at rows cut.row in
    let one = cut_domain cutter cut.slot ds in
    let after = present-after_cut rows cut marks each.0.slot in
    let was = normal' cut.slot no_values each.0.slot in
    let kept = HasRoom-without row ds cut.slot one each.0.slot (All-head (λ (c : RowCut). IsWithout row.entries c.slot) cut cuts without) (λ v. cut_within cutter cut.slot ds v was.positive) (length-set ds cut.slot one) room in
    let normal2 = All-set IsNormal ds cut.slot one (cut_normal cutter cut.slot ds was) normal' in
    after_room rows row cuts (after_cut rows cut marks) each.1 (subst (All IsNormal) (sym after) normal2) (All-tail (λ (c : RowCut). IsWithout row.entries c.slot) cut cuts without) (subst (λ (x : List Domain). HasRoom x row) (sym after) kept)

-- the cuts that were made stand at the end of the list
pub made_is : (rows : List Row) (a b : List (List Domain)) (x y : List RowCut) (h : HasCut rows a b x y) → take (length y - length x) (drop (length x) y) ≡ h.made
made_is rows a b x y h =
    let rest : drop (length x) y ≡ h.made = ap (drop (length x)) h.listed ∙ drop_at x h.made (length x) refl in
    ap (take (length y - length x)) rest ∙ take_all (length y - length x) h.made (omega (arith, ap length h.listed, length-append x h.made))

-- they name slots that are there
after_named : (rows : List Row) (n : ℕ) (cuts : List RowCut) (marks : List (List Domain)) → AreMade rows cuts marks → length (present marks) ≡ n → All (λ c. c.slot < n) cuts
after_named rows n [] marks each many = All-nil (λ (c : RowCut). c.slot < n)
after_named rows n (cut ∷ cuts) marks each many =
    let slots = ap length (present-after_cut rows cut marks each.0.slot) ∙ length-set (present marks) cut.slot (cut_domain (row_at rows cut.row) cut.slot (present marks)) ∙ many in
    All-cons (λ (c : RowCut). c.slot < n) cut cuts (omega (arith, each.0.slot, many)) (after_named rows n cuts (after_cut rows cut marks) each.1 slots)

pub made_named : (rows : List Row) (a b : List (List Domain)) (x y : List RowCut) (h : HasCut rows a b x y) → All (λ c. c.slot < length (present a)) h.made
made_named rows a b x y h = after_named rows (length (present a)) h.made a h.each refl

-- where nothing has been listed, nothing has changed
pub HasCut-nothing : (rows : List Row) (a b : List (List Domain)) (x y : List RowCut) → HasCut rows a b x y → length y ≡ length x → b ≡ a
HasCut-nothing rows a b x y h same =
    let none = nil_from_length h.made (omega (arith, same, ap length h.listed, length-append x h.made)) in
    h.led ∙ ap (λ (cuts : List RowCut). after_cuts rows cuts a) none

-- rows that wait still do where whatever waited does
pub AreAwake-kept : (old new : List Bool) (cutter : ℕ) (rows : List ℕ) → ((row : ℕ) → waits old row ≡ true → waits new row ≡ true) → AreAwake old cutter rows → AreAwake new cutter rows
AreAwake-kept old new cutter rows kept all = λ k d lt apart. kept (get_or rows k d) (all k d lt apart)

not_waiting : (b : Bool) → (b ≡ true → ⊥) → b ≡ false
not_waiting true h = absurd (h refl)
not_waiting false h = refl

all_awake : (waiting : List Bool) (cutter : ℕ) (rs : List ℕ) (r : ℕ) → AreAwake waiting cutter rs → Contains rs r → (r ≡ cutter → ⊥) → waits waiting r ≡ true
all_awake waiting cutter rs r all c apart =
    let there = subst (λ (n : ℕ). (n ≡ cutter → ⊥) → waits waiting n ≡ true) c.2 (all c.0 r c.1) in there apart

-- where the rows of slots wait, those that don't have room
pub woken_quiet : (rows : List Row) (index : List (List ℕ)) (slots : List ℕ) (waiting : List Bool) (but : ℕ) (ds : List Domain) → IsIndex rows index → length rows ≤ but → All (λ slot. AreAwake waiting but (list_of index slot)) slots → HaveRoomBut rows slots ds → AreQuiet rows ds waiting
woken_quiet rows index slots waiting but ds is past woken room r in_rows asleep =
    room r in_rows (λ k d lt has.
    let slot = get_or slots k d in
    let awake = all_awake waiting but (list_of index slot) r (woken k d lt) ((is slot r).1 (in_rows, has)) (λ (e : r ≡ but). absurd (omega (arith, e, in_rows, past))) in
    false≢true (sym asleep ∙ awake))

-- rows that still don't wait have room
pub look_quiet : (rows : List Row) (index : List (List ℕ)) (number : ℕ) (a b : List (List Domain)) (x y : List RowCut) (h : HasCut rows a b x y) (old new : List Bool) → IsIndex rows index → All IsNormal (present a)
    → ((r : ℕ) → r < length rows → (r ≡ number → ⊥) → waits old r ≡ false → HasRoom (present a) (row_at rows r))
    → ((r : ℕ) → waits old r ≡ true → waits new r ≡ true) → All (λ c. AreAwake new number (list_of index c.slot)) h.made
    → HasRoom (present b) (row_at rows number) → AreQuiet rows (present b) new
look_quiet rows index number a b x y h old new is normal' before kept woken own r in_rows asleep =
    ⊎_elim
    (λ (here : r ≡ number). subst (λ (n : ℕ). HasRoom (present b) (row_at rows n)) (sym here) own)
    (λ (apart : r ≡ number → ⊥).
    let slept : waits old r ≡ false = not_waiting (waits old r) (λ w. false≢true (sym asleep ∙ kept r w)) in
    let without = λ (k : ℕ) (c : RowCut) (lt : k < length h.made).
    without_listed (row_at rows r).entries (get_or h.made k c).slot (λ has.
    let listed = (is (get_or h.made k c).slot r).1 (in_rows, has) in
    let awake = all_awake new number (list_of index (get_or h.made k c).slot) r (woken k c lt) listed apart in
    false≢true (sym asleep ∙ awake)) in
    subst (λ (m : List (List Domain)). HasRoom (present m) (row_at rows r)) (sym h.led) (after_room rows (row_at rows r) h.made a h.each normal' without (before r in_rows apart slept)))
    (cases_eq r number)

-- a look that cuts takes a value away, whatever rows it lets wait
pub look_less : (rows : List Row) (a b : List (List Domain)) (x y : List RowCut) (queued before : ℕ) → HasCut rows a b x y → All IsNormal (present a) → (length y ≡ length x → ⊥) → length x ≤ length y → queued ≤ 524287 → 524288 * sum_by count_of (present b) + queued ≤ 524288 * sum_by count_of (present a) + before
look_less rows a b x y queued before h normal' apart longer few =
    let less = HasCut-fewer rows a b x y h normal' in
    let some : 1 ≤ length y - length x = omega (arith, apart, longer) in
    omega (arith, less, some, few)

pub few_wait : (queued rows : ℕ) (waiting : List Bool) → queued ≤ count_by (λ b. b) waiting → length waiting ≡ rows → rows ≤ 400000 → queued ≤ 524287
few_wait queued rows waiting few many small = omega (arith, few, many, small, count_by-le-length (λ (b : Bool). b) waiting)
