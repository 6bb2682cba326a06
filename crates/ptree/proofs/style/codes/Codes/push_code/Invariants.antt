use Rattle.std.proofs.Common.{◌≡◌, ◌+◌, ◌*◌, ◌≤◌, ◌∷◌, ◌++◌, take}
use Rattle.std.specs.Prelude.{decimal, flat_map}
use Rattle.ptree.specs.Codes.{codes_of}
use Rattle.ptree.proofs.style.codes.Codes.push_code.Given as goal

-- the numbers so far were added, each after a `;`
abbrev pub invariant-loop-n : goal.invariant-loop-n
invariant-loop-n l = record {
  text : codes_of l.self ≡ codes_of l.initial.self ++ flat_map (λ n. 59 ∷ decimal n) (take l.n-index l.others);
  len : l.self.len ≤ l.initial.self.len + 4 * l.n-index;
}
