-- Places of a key, from the end of a text.
use Rattle.std.proofs.Common.{◌≡◌, ℕ, ◌<◌, ◌≤◌, ◌+◌, ◌-◌, ◌↔◌, inl, inr, Bool, true, false, IsTrue, List, ◌++◌, codes, length, take, drop, arith, subst, sym, add-one}
use Rattle.std.proofs.Math.Nat.{eq-or-lt_of_le}
use Rattle.std.proofs.lemmas.Bool.{cases_lt}
use Rattle.ptree.specs.declared.print_config.FileSource.{FileSource}
use Rattle.ptree.specs.declared.print_config.loader.Fault.{Fault}
use Rattle.ptree_sources.specs.FaultLine.{IsPlace, HasPlaces, IsFaultPlace, HasNoLine, Heals, other_text, places_tried}

-- none from a place on, and none just before it
pub none_from_before : (P : ℕ → Type 0) (at end : ℕ) → ((other : ℕ) → at ≤ other → other < end → P other → ⊥) → (P (at - 1) → ⊥)
    → (other : ℕ) → at - 1 ≤ other → other < end → P other → ⊥
none_from_before P at end none not other h k p = elim (eq-or-lt_of_le h) [ inl e ↦ not (subst P (sym e) p) | inr after ↦ none other (omega (arith, after)) k p ]

module _ (file : FileSource) (e : Fault) (key text : List ℕ) where
  -- from a place on, there is no place of the fault
  abbrev pub NoneFrom : ℕ → Type 0
  NoneFrom end = (other : ℕ) → end ≤ other → ¬ (IsFaultPlace file e key text other)

  -- before a place, so many places follow each
  abbrev pub ManyBefore : ℕ → ℕ → Type 0
  ManyBefore n end = (from : ℕ) → from < end → HasPlaces key text n from

  -- no place after the last one before the end
  pub none_after : (at end : ℕ) → NoneFrom end → ((other : ℕ) → at < other → other < end → ¬ (IsPlace key text other))
      → (other : ℕ) → at < other → ¬ (IsFaultPlace file e key text other)
  none_after at end none later other h p = elim (cases_lt other end) [ inl before ↦ later other h before p.place | inr past ↦ none other past p ]

  -- nor is it that one
  pub none_from : (at end : ℕ) → NoneFrom end → ((other : ℕ) → at < other → other < end → ¬ (IsPlace key text other))
      → ¬ (Heals file e (other_text text at)) → NoneFrom at
  none_from at end none later not other h p = elim (eq-or-lt_of_le h) [
    | inl is ↦ not (subst (λ n. Heals file e (other_text text n)) (sym is) p.heals)
    | inr after ↦ none_after at end none later other after p
  ]

  -- with `_` between its two parts, a text does not heal the fault
  pub not_healed : (at : ℕ) (before behind : List ℕ) (b : Bool) → b ≡ false → (IsTrue b ↔ Heals file e (before ++ codes "_" ++ behind))
      → before ≡ take at text → behind ≡ drop at text → ¬ (Heals file e (other_text text at))
  not_healed at before behind b is test front back h =
      let parts : Heals file e (before ++ codes "_" ++ behind) =
      subst (λ z. Heals file e (z ++ codes "_" ++ behind)) (sym front) (subst (λ z. Heals file e (take at text ++ codes "_" ++ z)) (sym back) h) in
      let yes = test.1 parts in
      let no : ⊥ = cc (is, yes) in no

  -- with `_` between its two parts, a text heals the fault
  pub healed : (at : ℕ) (before behind : List ℕ) (b : Bool) → b ≡ true → (IsTrue b ↔ Heals file e (before ++ codes "_" ++ behind))
      → before ≡ take at text → behind ≡ drop at text → Heals file e (other_text text at)
  healed at before behind b is test front back =
      subst (λ z. Heals file e (take at text ++ codes "_" ++ z)) back (subst (λ z. Heals file e (z ++ codes "_" ++ behind)) front (test.0 is))

  -- no place is tried yet
  pub none_tried : NoneFrom (length text) × ManyBefore 0 (length text)
  unfolding HasPlaces
  none_tried = (λ other h p. absurd (omega (arith, h, p.place.0)), λ from h. tt)

  -- one more place follows each before it
  pub one_more : (n at end : ℕ) → ManyBefore n end → at < end → IsPlace key text at → ManyBefore (n + 1) at
  unfolding HasPlaces
  one_more n at end many before place from h =
      subst (λ k. HasPlaces key text k from) (sym (add-one n)) (at, h, place, many at before)

  -- no place of the key is left, so the fault has none
  pub no_line : (end : ℕ) → NoneFrom end → ((other : ℕ) → other < end → ¬ (IsPlace key text other)) → HasNoLine file e key text
  no_line end none left at p = absurd (elim (cases_lt at end) [ inl before ↦ left at before p.place | inr past ↦ none at past p ])

  -- as many places as are tried follow each place of the fault
  pub too_many : (n end : ℕ) → n ≡ places_tried → NoneFrom end → ManyBefore n end → HasNoLine file e key text
  too_many n end is none many at p = elim (cases_lt at end) [ inl before ↦ subst (λ k. HasPlaces key text k at) is (many at before) | inr past ↦ absurd (none at past p) ]
