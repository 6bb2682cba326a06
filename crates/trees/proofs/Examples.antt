-- Names of nodes and indents by computation.
use Rattle.trees.proofs.Common.{◌≡◌, ℕ, zero, suc, true, false, true≢false, [], ◌∷◌, codes, inl, refl, sym}
use Rattle.trees.specs.Naming.{is_all_of, is_labelled, version_text, IsRootNode}
use Rattle.trees.specs.Outlining.{first_indent}

-- the unit is a tab where the first line with blanks begins with one
tabs : first_indent (codes "a" ∷ (9 ∷ 9 ∷ 98 ∷ []) ∷ codes "  c" ∷ []) ≡ 9 ∷ []
tabs = refl

-- a scope is no version
version_none : version_text (codes "@s/tool") ≡ []
version_none = refl

-- a source may be behind the version
with_source : is_labelled (codes "a@1.0.0") (codes "a v1.0.0 (git+https://example.org/a)") ≡ true
with_source = refl

-- an alias has two names, and the version of one
alias_real : is_labelled (codes "@s/real@1.0.0") (codes "al@npm:@s/real@1.0.0") ≡ true
alias_real = refl

alias_version : is_labelled (codes "al@1.0.0") (codes "al@npm:@s/real@1.0.0") ≡ false
alias_version = refl

-- a whole label comes before a part of another
whole : IsRootNode (codes "a v1" ∷ codes "a" ∷ []) [] (codes "a") 1
whole = inl (refl, only) where
  only : (k : ℕ) → is_all_of (codes "a v1" ∷ codes "a" ∷ []) [] (codes "a") k ≡ true → k ≡ 1
  only zero is = absurd (true≢false (sym is))
  only (suc zero) is = refl
  only (suc (suc k)) is = absurd (true≢false (sym is))
