-- The states with one of them raised, and a plant with them.
use Rattle.std.proofs.Common.{◌≡◌, ℕ, suc, ◌+◌, ◌<◌, List, [], ◌∷◌, ◌++◌, length, map, get_or, take, drop, sym, ap, ◌∙◌, arith, ℤ}
use Rattle.std.proofs.lemmas.List.{append_assoc, get_or_default, set_split}
use Rattle.stn_model.specs.declared.plant.State.{State}
use Rattle.stn_model.specs.Plant.{no_state}
use Rattle.what_if.specs.Raised.{raised_limit, raised_states, with_limits}

-- the states before one, that one with raised limits, and the states after it
pub raised_states-parts : (number : ℕ) (amount : ℤ) (states : List State) (state d : State) (limits : List ℕ) (a b c' : List State) (own : State)
    → number < length states → state ≡ get_or states number d → limits ≡ map (raised_limit amount) state.limits → own ≡ with_limits state limits
    → a ≡ take number states → b ≡ a ++ own ∷ [] → c' ≡ b ++ drop (number + 1) states → c' ≡ raised_states number amount states
unfolding raised_states
raised_states-parts number amount states state d limits a b c' own lt at is_limits is_own first second third =
    let here : state ≡ get_or states number no_state = at ∙ get_or_default states number d no_state lt in
    let raised : own ≡ with_limits (get_or states number no_state) (map (raised_limit amount) (get_or states number no_state).limits) =
    is_own ∙ ap (with_limits state) is_limits ∙ ap (λ (s : State). with_limits s (map (raised_limit amount) s.limits)) here in
    let next : number + 1 ≡ suc number = omega arith in
    third
    ∙ ap (λ (xs : List State). xs ++ drop (number + 1) states) (second ∙ ap (λ (xs : List State). xs ++ own ∷ []) first)
    ∙ append_assoc (take number states) (own ∷ []) (drop (number + 1) states)
    ∙ ap (λ (n : ℕ). take number states ++ (own ∷ drop n states)) next
    ∙ ap (λ (s : State). take number states ++ (s ∷ drop (suc number) states)) raised
    ∙ sym (set_split states number (with_limits (get_or states number no_state) (map (raised_limit amount) (get_or states number no_state).limits)) lt)
