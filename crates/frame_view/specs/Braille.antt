-- The glass for a terminal: Braille characters of 2 by 4 dots, 128 to a line, in 8 lines, with a line drawn around them.
use Rattle.std.specs.Prelude.{ℕ, ◌+◌, ◌*◌, ◌-◌, ◌/◌, ◌%◌, List, eqb}
use Rattle.base.specs.Choice.{when◌then◌else◌}
use Rattle.base.specs.Lists.{upto}
use Rattle.frame_view.specs.Dots.{dot_at}

-- three dots, from column x of row y down, as a number: each counts twice what the one above it does
unfoldable pub three_down : List ℕ → ℕ → ℕ → ℕ
three_down frame x y = dot_at frame x y + 2 * dot_at frame x (y + 1) + 4 * dot_at frame x (y + 2)

-- the Braille character whose upper left dot is at column x of row y: U+2800, and for each dot n that is set 2^(n-1) more. Dots 1, 2, 3
-- go down its left side and 4, 5, 6 down its right one; below them are 7 and 8
unfoldable pub braille_at : List ℕ → ℕ → ℕ → ℕ
braille_at frame x y =
    0x2800 + three_down frame x y + 8 * three_down frame (x + 1) y + 64 * dot_at frame x (y + 3) + 128 * dot_at frame (x + 1) (y + 3)

-- at either end of a line one character, and between them another
abbrev pub line_of : ℕ → ℕ → ℕ → ℕ → ℕ
line_of left middle right column = when eqb column 0 then left else when eqb column 129 then right else middle

-- the character at a column of 130 of one of ten lines: ┌─┐ above, └─┘ below, │ at the sides
unfoldable pub character : List ℕ → ℕ → ℕ → ℕ
character frame line column =
    when eqb line 0 then line_of 0x250C 0x2500 0x2510 column
    else when eqb line 9 then line_of 0x2514 0x2500 0x2518 column
    else line_of 0x2502 (braille_at frame (2 * (column - 1)) (4 * (line - 1))) 0x2502 column

-- byte n of the three that a character from U+0800 to U+FFFF has in UTF-8
unfoldable pub utf8 : ℕ → ℕ → ℕ
utf8 c n =
    when eqb n 0 then 0xE0 + c / 4096
    else when eqb n 1 then 0x80 + c / 64 % 64
    else 0x80 + c % 64

-- a line is 130 characters and a line feed, 391 bytes
unfoldable pub text_at : List ℕ → ℕ → ℕ
text_at frame i =
    when eqb (i % 391) 390 then 0x0A
    else utf8 (character frame (i / 391) (i % 391 / 3)) (i % 391 % 3)

unfoldable pub braille : List ℕ → List ℕ
braille frame = upto 3910 (text_at frame)
