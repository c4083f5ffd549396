-- Histories: one more change, one change fewer, and what stays sound.
use Rattle.std.proofs.Common.{◌≡◌, ℕ, ◌+◌, ◌-◌, ◌<◌, ◌≤◌, Bool, true, false, ◌&&◌, cond, eqb, List, [], ◌∷◌, ◌++◌, length, get_or, set, take, refl, sym, ap, ◌∙◌, subst, arith, ⊎_elim}
use Rattle.std.specs.List.{sum_by}
use Rattle.std.specs.Bool.{beq}
use Rattle.std.proofs.lemmas.Bool.{and_parts, eqb-true, cases_lt, cond-true, cond-false}
use Rattle.std.proofs.lemmas.List.{length_push, get_or_default, set-set, set-get_or, get_or_append_left, get_or_push, take-append-le, take_all, length-set}
use Rattle.std.proofs.lemmas.List.Elements.{All-push, All-set}
use Rattle.std.proofs.lemmas.List.Sums.{sum_by-set, get_or-le-sum_by}
use Rattle.std.specs.Cmp.{booleans_Decides}
use Rattle.row_kit.specs.declared.domain.Domain.{Domain}
use Rattle.row_kit.specs.declared.former.Former.{Former}
use Rattle.row_kit.specs.Domain.{IsNormal, count_of, domain_at, no_values}
use Rattle.row_kit.specs.Area.{present, is_same, with_domain, undone, history, LeavesRoom, IsSound}

abbrev domain_of : Bool → ℕ → ℕ → Domain
domain_of z l h = record { zero = z; lo = l; hi = h }

rebuilt : (y z : Bool) (l m h k : ℕ) → y ≡ z → l ≡ m → h ≡ k → domain_of y l h ≡ domain_of z m k
rebuilt y z l m h k e f g = cc

pub is_same_true : (a b : Domain) → is_same a b ≡ true → a ≡ b
is_same_true a b h =
    let p = and_parts (beq a.zero b.zero && eqb a.lo b.lo) (eqb a.hi b.hi) h in
    let q = and_parts (beq a.zero b.zero) (eqb a.lo b.lo) p.0 in
    let ez : a.zero ≡ b.zero = (booleans_Decides a.zero b.zero).0 q.0 in
    let el : a.lo ≡ b.lo = eqb-true a.lo b.lo q.1 in
    let eh : a.hi ≡ b.hi = eqb-true a.hi b.hi p.1 in
    rebuilt a.zero b.zero a.lo b.lo a.hi b.hi ez el eh

pub length-history : (ds : List Domain) (cs : List Former) → length (history ds cs) ≡ length cs + 1
length-history ds [] = refl
length-history ds (c ∷ cs) = omega (arith, length-history ds cs)

last-history : (ds : List Domain) (cs : List Former) → get_or (history ds cs) (length cs) [] ≡ ds
last-history ds [] = refl
last-history ds (c ∷ cs) = last-history ds cs

pub present-history : (ds : List Domain) (cs : List Former) → present (history ds cs) ≡ ds
present-history ds cs =
    let e : length (history ds cs) - 1 ≡ length cs = omega (arith, length-history ds cs) in
    ap (λ n. get_or (history ds cs) n []) e ∙ last-history ds cs

undone_push : (ds : List Domain) (cs : List Former) (c : Former) → undone ds (cs ++ c ∷ []) ≡ undone (set ds c.slot c.domain) cs
undone_push ds [] c = refl
undone_push ds (x ∷ cs) c = ap (λ v. set v x.slot x.domain) (undone_push ds cs c)

-- the history of one more change: the newest change is taken back, and the present domains come last
pub history_push : (ds : List Domain) (cs : List Former) (c : Former) → history ds (cs ++ c ∷ []) ≡ history (set ds c.slot c.domain) cs ++ ds ∷ []
history_push ds [] c = refl
history_push ds (x ∷ cs) c =
    ap (λ v. set v x.slot x.domain ∷ history ds (cs ++ c ∷ [])) (undone_push ds cs c)
    ∙ ap (λ v. set (undone (set ds c.slot c.domain) cs) x.slot x.domain ∷ v) (history_push ds cs c)

-- what `put_domain` leaves, where the domain is another one
pub history_after : (ds : List Domain) (cs : List Former) (s : ℕ) (old next : Domain) → old ≡ domain_at ds s → history (set ds s next) (cs ++ record { slot = s; domain = old } ∷ []) ≡ history ds cs ++ set ds s next ∷ []
history_after ds cs s old next e =
    let back : set (set ds s next) s old ≡ ds = set-set ds s next old ∙ ap (set ds s) e ∙ set-get_or ds s no_values in
    history_push (set ds s next) cs (record { slot = s; domain = old }) ∙ ap (λ v. history v cs ++ set ds s next ∷ []) back

pub with_domain_changed : (ds : List Domain) (cs : List Former) (s : ℕ) (next : Domain) → s < length ds → is_same (domain_at ds s) next ≡ false → with_domain (history ds cs) s next ≡ history ds cs ++ set ds s next ∷ []
with_domain_changed ds cs s next lt h =
    let hs = history ds cs in
    let test : is_same (get_or ds s next) next ≡ false = ap (λ d. is_same d next) (get_or_default ds s next no_values lt) ∙ h in
    ap (λ v. cond (is_same (get_or v s next) next) hs (hs ++ set v s next ∷ [])) (present-history ds cs)
    ∙ cond-false (is_same (get_or ds s next) next) hs (hs ++ set ds s next ∷ []) test

pub with_domain_kept : (ds : List Domain) (cs : List Former) (s : ℕ) (next : Domain) → s < length ds → is_same (domain_at ds s) next ≡ true → with_domain (history ds cs) s next ≡ history ds cs
with_domain_kept ds cs s next lt h =
    let hs = history ds cs in
    let test : is_same (get_or ds s next) next ≡ true = ap (λ d. is_same d next) (get_or_default ds s next no_values lt) ∙ h in
    ap (λ v. cond (is_same (get_or v s next) next) hs (hs ++ set v s next ∷ [])) (present-history ds cs)
    ∙ cond-true (is_same (get_or ds s next) next) hs (hs ++ set ds s next ∷ []) test

room_push : (hs : List (List Domain)) (ds new : List Domain) (room last : ℕ) → length hs ≡ last + 1 → get_or hs last [] ≡ ds → sum_by count_of new < sum_by count_of ds → LeavesRoom hs room → LeavesRoom (hs ++ new ∷ []) room
room_push hs ds new room last len at less leaves k lt =
    ⊎_elim
    (λ (before : k < length hs).
    let e = get_or_append_left hs (new ∷ []) [] k before in
    let was = leaves k before in
    omega (arith, was, ap (sum_by count_of) e))
    (λ (past : length hs ≤ k).
    let e = get_or_push hs new [] k (omega (arith, length_push hs new)) in
    let was = leaves last (omega arith) in
    omega (arith, was, ap (sum_by count_of) e, ap (sum_by count_of) at, length_push hs new))
    (cases_lt k (length hs))

room_front : (hs : List (List Domain)) (new : List Domain) (room : ℕ) → LeavesRoom (hs ++ new ∷ []) room → LeavesRoom hs room
room_front hs new room leaves k lt =
    let e = get_or_append_left hs (new ∷ []) [] k lt in
    let was = leaves k (omega (arith, length_push hs new)) in
    omega (arith, was, ap (sum_by count_of) e)

-- a trail that is sound has room wherever the present domains have a value
pub room_to_push : (ds : List Domain) (cs : List Former) (room s : ℕ) → LeavesRoom (history ds cs) room → s < length ds → 0 < count_of (domain_at ds s) → length cs < room
room_to_push ds cs room s leaves lt open' =
    let was = leaves (length cs) (omega (arith, length-history ds cs)) in
    let some = get_or-le-sum_by count_of ds s no_values lt in
    omega (arith, was, ap (sum_by count_of) (last-history ds cs), some)

pub sound_pushed : (ds : List Domain) (cs : List Former) (room s : ℕ) (old next : Domain) → IsSound ds cs room → s < length ds → old ≡ domain_at ds s → IsNormal next → count_of next < count_of old → IsSound (set ds s next) (cs ++ record { slot = s; domain = old } ∷ []) room
sound_pushed ds cs room s old next sound lt e normal less =
    let stays = length-set ds s next in
    let old_normal : IsNormal old = subst IsNormal (sym e) (sound.normal s no_values lt) in
    let change : Former = record { slot = s; domain = old } in
    let fewer : sum_by count_of (set ds s next) < sum_by count_of ds = omega (arith, sum_by-set count_of ds s next no_values lt, ap count_of e) in
    record {
      few = omega arith;
      normal = All-set IsNormal ds s next normal sound.normal;
      in_range = All-push (λ c. c.slot < length (set ds s next)) cs change (λ k d h. omega (arith, sound.in_range k d h)) (omega arith);
      trail_normal = All-push (λ c. IsNormal c.domain) cs change sound.trail_normal old_normal;
      leaves_room =
          subst (λ hs. LeavesRoom hs room) (sym (history_after ds cs s old next e))
          (room_push (history ds cs) ds (set ds s next) room (length cs) (length-history ds cs) (last-history ds cs) fewer sound.leaves_room);
      small = sound.small;
    }

longer : (k m n : ℕ) → k < m → m < n → k < n
longer k m n a b = omega arith

pub sound_popped : (ds : List Domain) (cs : List Former) (room : ℕ) (c : Former) → IsSound ds (cs ++ c ∷ []) room → (c.slot < length ds) × IsSound (set ds c.slot c.domain) cs room
sound_popped ds cs room c sound =
    let stays = length-set ds c.slot c.domain in
    let at_last : length cs < length (cs ++ c ∷ []) = omega (arith, length_push cs c) in
    let lt : c.slot < length ds = subst (λ x. x.slot < length ds) (get_or_push cs c c (length cs) refl) (sound.in_range (length cs) c at_last) in
    let normal : IsNormal c.domain = subst (λ x. IsNormal x.domain) (get_or_push cs c c (length cs) refl) (sound.trail_normal (length cs) c at_last) in
    let front = λ (k : ℕ) (d : Former) (h : k < length cs). get_or_append_left cs (c ∷ []) d k h in
    let shorter = λ (k : ℕ) (h : k < length cs). longer k (length cs) (length (cs ++ c ∷ [])) h at_last in (
      lt,
      record {
        few = omega arith;
        normal = All-set IsNormal ds c.slot c.domain normal sound.normal;
        in_range = λ k d h. subst (λ n. (get_or cs k d).slot < n) (sym stays) (subst (λ x. x.slot < length ds) (front k d h) (sound.in_range k d (shorter k h)));
        trail_normal = λ k d h. subst (λ x. IsNormal x.domain) (front k d h) (sound.trail_normal k d (shorter k h));
        leaves_room = room_front (history (set ds c.slot c.domain) cs) ds room (subst (λ hs. LeavesRoom hs room) (history_push ds cs c) sound.leaves_room);
        small = sound.small;
      },
    )

-- the marks up to one stay where a newer change is taken back
pub take_popped : (ds : List Domain) (cs : List Former) (c : Former) (n : ℕ) → n ≤ length cs → take (n + 1) (history ds (cs ++ c ∷ [])) ≡ take (n + 1) (history (set ds c.slot c.domain) cs)
take_popped ds cs c n h =
    ap (take (n + 1)) (history_push ds cs c)
    ∙ take-append-le (n + 1) (history (set ds c.slot c.domain) cs) (ds ∷ []) (omega (arith, length-history (set ds c.slot c.domain) cs))

pub take_whole : (ds : List Domain) (cs : List Former) (n : ℕ) → length cs ≡ n → take (n + 1) (history ds cs) ≡ history ds cs
take_whole ds cs n e = take_all (n + 1) (history ds cs) (omega (arith, length-history ds cs))

-- the present domains of an area that shows these marks
pub present_is : (ds : List Domain) (cs : List Former) (marks : List (List Domain)) → history ds cs ≡ marks → present marks ≡ ds
present_is ds cs marks e = ap present (sym e) ∙ present-history ds cs
