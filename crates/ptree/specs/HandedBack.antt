-- What happens to a builder that a call returns.
use Rattle.std.specs.Prelude.{Result}
use Rattle.std.specs.Borrow.{Fml, MutBor, LendsIfOk}
use Rattle.ptree.specs.TreeBuilder.{Building}
use Rattle.ptree.specs.contracts.builder.TreeBuilder.{the_row}

-- the builder continues as the returned reference, and is unchanged after an error
abbrev pub HandsBack : {E : Type 0} → MutBor Building → Result (MutBor Building) E → Fml
HandsBack b r = LendsIfOk the_row the_row b r (λ w. w) b.now
