-- What the taker holds has grown by the item.
use Rattle.std.proofs.Common.{◌≡◌, ◌++◌, ◌∷◌, [], Some, None, sym, ◌∙◌, subst}
use Rattle.proof_tree.specs.Built.{HoldsBuilt}
use Rattle.proof_tree.proofs.Building.{holding-next, wrong-wrong}
use Rattle.proof_tree.proofs.tree_taker.TreeTakerNodeTaker.put.Goals as goal

pub returns-in_default-clause-took : goal.returns-in_default-clause-took
returns-in_default-clause-took g c = λ taker outside items so_far.
    let none : c.args.self.now.built ≡ None = sym c.take.ensures.value ∙ c.in_default.is in (
      holding-next taker c.args.self.now _ items c.args.item.now so_far.0 (λ held holds.
          record { held = subst (HoldsBuilt (held ++ c.args.item.now ∷ [])) (sym c.take.ensures.after) (wrong-wrong held c.args.item.now (subst (HoldsBuilt held) none holds.held)) }),
      so_far.1,
    )

pub returns-clause-took : goal.returns-clause-took
returns-clause-took g c = λ taker outside items so_far.
    let was : c.args.self.now.built ≡ Some c.in-Some.built = sym c.take.ensures.value ∙ c.in-Some.is in (
      holding-next taker c.args.self.now _ items c.args.item.now so_far.0 (λ held holds.
          record { held = subst (λ item. HoldsBuilt (held ++ item ∷ []) c.in_ok-self.field-0) c.in_ok-copy.ensures (c.in_ok-self.ensures held (subst (HoldsBuilt held) was holds.held)) }),
      so_far.1,
    )
