-- Controls in range are those that their bytes spell, so drawing from the bytes of a state draws the state.
use Rattle.std.proofs.Common.{None, Option, Some}
use Prim.Native.Nat.{ℕ, ◌+◌, ◌*◌, ◌<◌}
use mathlib.Core.Bool.{Bool, true, false}
use mathlib.Core.List.{List, [], ◌∷◌}
use mathlib.Core.Path.{◌≡◌, refl}
use native.Mathlib.Nat.{mod-eq_of_lt, min-eq_left, min-le_right}
use native.Mathlib.Omega.{arith}
use lib.ListN.{length, get_or}
use Rattle.events.specs.declared.Numbering.{Numbering}
use Rattle.events.specs.declared.Numbering.TheVariants.{By96, By160}
use Rattle.table.specs.declared.Target.{Target}
use Rattle.table.specs.declared.Target.TheVariants.{Text, Glyph, Graphic}
use Rattle.controller.specs.declared.Control.{Control}
use Rattle.controller.specs.State.{numbering_of, limit, RowInRange, InRange}
use Rattle.state_bytes.specs.Packed.{flag, target_from, counter_from, waiting_from, place_from, view_from, unpacked, flag_byte, target_byte, numbering_byte, waits_byte, waiting_byte, high_byte, low_byte, packed}

flag-read : (on : Bool) → flag (flag_byte on) ≡ on
flag-read true = refl
flag-read false = refl

target_read : (t : Target) → target_from (target_byte t) ≡ t
target_read Text = refl
target_read Glyph = refl
target_read Graphic = refl

numbering-read : (n : Numbering) → numbering_of (flag (numbering_byte n)) ≡ n
numbering-read By96 = refl
numbering-read By160 = refl

counter-read : (t : Target) (n : ℕ) → n < limit t → counter_from t n ≡ n
counter-read Text n h = mod-eq_of_lt h
counter-read Glyph n h = mod-eq_of_lt h
counter-read Graphic n h = mod-eq_of_lt h

waiting-read : (w : Option ℕ) → RowInRange w → waiting_from (flag (waits_byte w)) (waiting_byte w) ≡ w
waiting-read None h = refl
waiting-read (Some y) h = rw (mod-eq_of_lt h)

-- four lines are the four that are looked at
lines-read : (l : List Bool) → length l ≡ 4 → get_or l 0 false ∷ get_or l 1 false ∷ get_or l 2 false ∷ get_or l 3 false ∷ [] ≡ l
lines-read [] h = absurd (omega arith)
lines-read (a ∷ []) h = absurd (omega arith)
lines-read (a ∷ b ∷ []) h = absurd (omega arith)
lines-read (a ∷ b ∷ c ∷ []) h = absurd (omega arith)
lines-read (a ∷ b ∷ c ∷ d ∷ []) h = refl
lines-read (a ∷ b ∷ c ∷ d ∷ e ∷ l) h = absurd (omega arith)

-- a number is its two bytes
remaining-read : (n : ℕ) → high_byte n * 256 + low_byte n ≡ n
remaining-read n = omega arith

pub unpacked-packed : (c : Control) → InRange c → unpacked (packed c) ≡ c
unfolding unpacked packed place_from view_from
unpacked-packed c r =
    simp (
      flag-read,
      target_read,
      counter-read c.place.target c.place.counter r.counter,
      mod-eq_of_lt r.row,
      waiting-read c.place.waiting r.waiting,
      mod-eq_of_lt r.scroll,
      mod-eq_of_lt r.shift,
      lines-read c.view.reversed r.lines,
      numbering-read c.view.numbering,
      remaining-read c.time.remaining,
      min-eq_left r.remaining,
    )

-- and whatever bytes they are, the controls that they spell are in range
counter-within : (t : Target) (n : ℕ) → counter_from t n < limit t
counter-within Text n = omega arith
counter-within Glyph n = omega arith
counter-within Graphic n = omega arith

waiting-within : (waits : Bool) (n : ℕ) → RowInRange (waiting_from waits n)
waiting-within true n = omega arith
waiting-within false n = tt

pub unpacked_in_range : (b : List ℕ) → InRange (unpacked b)
unfolding unpacked place_from view_from
unpacked_in_range b =
    record {
      counter = counter-within (target_from (get_or b 0 0)) (get_or b 1 0);
      row = omega arith;
      waiting = waiting-within (flag (get_or b 5 0)) (get_or b 6 0);
      scroll = omega arith;
      shift = omega arith;
      lines = refl;
      remaining = min-le_right _ _;
    }
