use Rattle.std.proofs.Common.{subst, sym, arith}
use Rattle.ptree.specs.Codes.{HasHexDigits}
use Rattle.ptree.proofs.Styles.ColorNames.{hex_digits_at}
use Rattle.ptree.proofs.style.tone.hex_tone.Goals as goal

pub hex_byte-b-requires : goal.hex_byte-b-requires
hex_byte-b-requires c =
    subst (λ bytes. HasHexDigits bytes 5) (sym c.as_bytes-bytes.ensures.value) (hex_digits_at c.args.name.now 5 c.if-not-is_hex_name.ensures (omega arith) (omega arith))

pub hex_byte-r-requires : goal.hex_byte-r-requires
hex_byte-r-requires c =
    subst (λ bytes. HasHexDigits bytes 1) (sym c.as_bytes-bytes.ensures.value) (hex_digits_at c.args.name.now 1 c.if-not-is_hex_name.ensures (omega arith) (omega arith))

pub hex_byte-g-requires : goal.hex_byte-g-requires
hex_byte-g-requires c =
    subst (λ bytes. HasHexDigits bytes 3) (sym c.as_bytes-bytes.ensures.value) (hex_digits_at c.args.name.now 3 c.if-not-is_hex_name.ensures (omega arith) (omega arith))
