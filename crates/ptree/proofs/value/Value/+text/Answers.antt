use Rattle.std.proofs.Common.{arith}
use Rattle.std.proofs.lemmas.Grind.{common_steps}
use Rattle.ptree.specs.declared.value.Value.{the_lemmas}
use Rattle.ptree.proofs.value.Value.+text.Goals as goal

pub text-requires : goal.text-requires
text-requires t c = grind (arith, common_steps, the_lemmas)

pub text-requires-in-Newtype : goal.text-requires-in-Newtype
text-requires-in-Newtype t c = grind (arith, common_steps, the_lemmas)

pub returns-in-Bool-true : goal.returns-in-Bool-true
returns-in-Bool-true t c = grind (arith, common_steps, the_lemmas)

pub returns-in-Bool-false : goal.returns-in-Bool-false
returns-in-Bool-false t c = grind (arith, common_steps, the_lemmas)

pub returns-in-U8 : goal.returns-in-U8
returns-in-U8 t c = grind (arith, common_steps, the_lemmas)

pub returns-in-U16 : goal.returns-in-U16
returns-in-U16 t c = grind (arith, common_steps, the_lemmas)

pub returns-in-U32 : goal.returns-in-U32
returns-in-U32 t c = grind (arith, common_steps, the_lemmas)

pub returns-in-U64 : goal.returns-in-U64
returns-in-U64 t c = grind (arith, common_steps, the_lemmas)

pub returns-in-I8 : goal.returns-in-I8
returns-in-I8 t c = grind (arith, common_steps, the_lemmas)

pub returns-in-I16 : goal.returns-in-I16
returns-in-I16 t c = grind (arith, common_steps, the_lemmas)

pub returns-in-I32 : goal.returns-in-I32
returns-in-I32 t c = grind (arith, common_steps, the_lemmas)

pub returns-in-I64 : goal.returns-in-I64
returns-in-I64 t c = grind (arith, common_steps, the_lemmas)

pub returns-in-Char : goal.returns-in-Char
returns-in-Char t c = grind (arith, common_steps, the_lemmas)

pub returns-in-String : goal.returns-in-String
returns-in-String t c = grind (arith, common_steps, the_lemmas)

pub returns-in-Option-Some : goal.returns-in-Option-Some
returns-in-Option-Some t c = grind (arith, common_steps, the_lemmas)

pub returns-in-Newtype : goal.returns-in-Newtype
returns-in-Newtype t c = grind (arith, common_steps, the_lemmas)

pub returns-in-Unit : goal.returns-in-Unit
returns-in-Unit t c = grind (arith, common_steps, the_lemmas)

pub returns-in-Seq : goal.returns-in-Seq
returns-in-Seq t c = grind (arith, common_steps, the_lemmas)
