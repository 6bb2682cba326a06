use Rattle.trees.proofs.Common.{◌≡◌, ◌⊎◌, inl, inr, ◌∷◌, ◌++◌, [], map, refl, sym, ap, ◌∙◌, string_bytes, subst, rules, ◌≢◌, false≢true, same_text, other_text, IsPrefixOf}
use Rattle.ptree.specs.Pieces.{Pieces, pieces_of}
use Rattle.trees.proofs.DistinctTexts.{bytes_push}
use Rattle.trees.proofs.Fronts.{below_same, below_tried}
use Rattle.trees.proofs.expected.push_below.Goals as goal
use Rattle.trees.proofs.expected.push_below.Goals.{Joined-begins, then-begins+in_ok-format+in_ok-push+else-eq, else-begins}

-- the first text is added, if the line goes on so
first_tried : (c : Joined-begins) → let p : Pieces = pieces_of c.args.indent.now in let a = map string_bytes c.args.fronts.now.items in let b = map string_bytes c.if-begins.fronts.items in
    (IsPrefixOf p.regular c.args.rest.now × (p.child ≢ p.last_child) × (b ≡ a ++ (c.args.front.now ++ p.child) ∷ [])) ⊎ ((IsPrefixOf p.regular c.args.rest.now → ⊥) × (b ≡ a))
first_tried c = elim c.if-begins.branch [
  | then-begins+in_ok-format+in_ok-push+else-eq w ↦
      let p : Pieces = pieces_of c.args.indent.now in inl (
        subst (λ z. IsPrefixOf z c.args.rest.now) c.as_str.ensures.value (c.begins.ensures.0 w.if-begins.true),
        other_text p.child p.last_child w.if-eq.ensures,
        ap (λ v. map string_bytes v.items) w.fronts-is ∙ bytes_push c.args.fronts.now.items w.push.new.self.items w.in_ok-format.field-0 (c.args.front.now ++ p.child) w.in_ok-push.ensures.items (search rules),
      )
  | else-begins w ↦ inr (
    λ starts. false≢true (sym w.if-begins.false ∙ c.begins.ensures.1 (subst (λ z. IsPrefixOf z c.args.rest.now) (sym c.as_str.ensures.value) starts)),
    ap (λ v. map string_bytes v.items) w.fronts-is,
  )
]

pub returns-then-eq : goal.returns-then-eq
returns-then-eq c =
    let p : Pieces = pieces_of c.args.indent.now in
    let starts : IsPrefixOf p.regular c.args.rest.now = subst (λ z. IsPrefixOf z c.args.rest.now) c.as_str.ensures.value (c.begins.ensures.0 c.if-begins.true) in
    let pushed = bytes_push c.args.fronts.now.items c.push.new.self.items c.in_ok-format.field-0 (c.args.front.now ++ p.child) c.in_ok-push.ensures.items (search rules) in
    below_same p c.args.front.now c.args.rest.now _ _ _ (same_text p.child p.last_child c.if-eq.ensures) starts pushed refl

pub returns-in_ok-push-2 : goal.returns-in_ok-push-2
returns-in_ok-push-2 c =
    let p : Pieces = pieces_of c.args.indent.now in
    let last : IsPrefixOf p.last_regular c.args.rest.now = subst (λ z. IsPrefixOf z c.args.rest.now) c.as_str-2.ensures.value (c.begins-2.ensures.0 c.if-begins-2.true) in
    let pushed = bytes_push c.if-begins.fronts.items c.push-then-begins-2.new.self.items c.in_ok-format-2.field-0 (c.args.front.now ++ p.last_child) c.in_ok-push-2.ensures.items (search rules) in
    below_tried p c.args.front.now c.args.rest.now _ _ _ (first_tried (goal.at.returns-in_ok-push-2 c).Joined-begins) (inl (last, pushed))

pub returns-else-begins-2 : goal.returns-else-begins-2
returns-else-begins-2 c =
    let p : Pieces = pieces_of c.args.indent.now in
    let never : IsPrefixOf p.last_regular c.args.rest.now → ⊥ = λ starts. false≢true (sym c.if-begins-2.false ∙ c.begins-2.ensures.1 (subst (λ z. IsPrefixOf z c.args.rest.now) (sym c.as_str-2.ensures.value) starts)) in
    below_tried p c.args.front.now c.args.rest.now _ _ _ (first_tried (goal.at.returns-else-begins-2 c).Joined-begins) (inr (never, refl))
