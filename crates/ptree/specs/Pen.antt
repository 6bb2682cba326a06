-- What the engine's buffer holds between its calls.
use Rattle.std.specs.Prelude.{◌≡◌, ℕ, Bool, Option, List, ◌++◌, take}
use Rattle.ptree.specs.declared.output.brush.Brush.{Brush}
use Rattle.ptree.specs.declared.output.pen.Pen.{Pen}
use Rattle.ptree.specs.Drawing.{Look}
use Rattle.ptree.specs.Line.{line_bytes}
use Rattle.ptree.specs.Looks.{look_of, own_text}
use Rattle.ptree.specs.Style.{start_codes}

-- the look of a brush
abbrev pub brush_look : Brush → Look
brush_look brush = look_of brush.look

-- the bytes in the buffer of a pen
abbrev pub buffer_of : Pen → List ℕ
buffer_of pen = line_bytes pen.line

-- the first `width` bytes are the branch's start codes and a passing text
abbrev pub HoldsPassing : Brush → Pen → ℕ → List ℕ → Type 0
HoldsPassing brush pen width passing = take width (buffer_of pen) ≡ start_codes (brush_look brush).branch ++ passing

-- after the first `width` bytes is the own text of a root (none), or of a child by whether it is
-- last
abbrev pub HoldsOwnText : Brush → Pen → ℕ → Option Bool → Type 0
HoldsOwnText brush pen width last = buffer_of pen ≡ take width (buffer_of pen) ++ own_text (brush_look brush) last
