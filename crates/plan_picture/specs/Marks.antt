-- The elements that a picture is made of, as SVG writes them.
use Rattle.std.specs.Prelude.{ℕ, ◌-◌, ◌==◌, nat_le, if◌then◌else◌, List, [], ◌∷◌, ◌++◌, codes, decimal, flat_map}
use Rattle.plan_picture.specs.declared.marks.Frame.{Frame}
use Rattle.plan_picture.specs.Columns.{columns, beginning}

-- a byte as XML writes it in a text: '&', '<' and '>' have names of their own
unfoldable pub escaped_byte : ℕ → List ℕ
escaped_byte byte =
    if byte == 38 then codes "&amp;" else (if byte == 60 then codes "&lt;" else (if byte == 62 then codes "&gt;" else byte ∷ []))

-- a text as XML writes it
abbrev pub escaped : List ℕ → List ℕ
escaped text = flat_map escaped_byte text

-- where words of a class begin
unfoldable pub words_begin : List ℕ → ℕ → ℕ → List ℕ
words_begin class x y = codes "<text class=\"" ++ (class ++ (codes "\" x=\"" ++ (decimal x ++ (codes "\" y=\"" ++ (decimal y ++ codes "\">")))))

-- words of a class, at a place
unfoldable pub words_at : List ℕ → ℕ → ℕ → List ℕ → List ℕ
words_at class x y words = words_begin class x y ++ (escaped words ++ codes "</text>\n")

-- a text where only so many letters have room: it is whole, or cut between two characters, with two points at its end
unfoldable pub shortened : ℕ → List ℕ → List ℕ
shortened room text = if nat_le (columns text) room then text else beginning (room - 2) text ++ codes ".."

-- a title, which a pointer on its group shows
unfoldable pub title : List ℕ → List ℕ
title text = codes "<title>" ++ (escaped text ++ codes "</title>\n")

-- words in a room of so many letters; where they are cut, a pointer shows the whole
unfoldable pub fitted : List ℕ → ℕ → ℕ → ℕ → List ℕ → List ℕ
fitted class x y room text =
    if nat_le (columns text) room then words_at class x y text
    else codes "<g>" ++ (title text ++ (words_at class x y (shortened room text) ++ codes "</g>\n"))

-- a rectangle of a class
unfoldable pub frame_at : List ℕ → Frame → List ℕ
frame_at class frame =
    codes "<rect class=\"" ++ (class ++ (codes "\" x=\"" ++ (decimal frame.x ++ (codes "\" y=\"" ++ (decimal frame.y
    ++ (codes "\" width=\"" ++ (decimal frame.width ++ (codes "\" height=\"" ++ (decimal frame.height ++ codes "\"/>\n")))))))))

-- a rectangle of a class, at a place
abbrev pub box_at : List ℕ → ℕ → ℕ → ℕ → ℕ → List ℕ
box_at class x y width height = frame_at class (record { x = x; y = y; width = width; height = height })
