-- What each painter leaves is what its region asks for.
use Prim.Native.Nat.{ℕ, ◌+◌, ◌*◌, ◌/◌, ◌%◌, ◌≤◌}
use mathlib.Core.Bool.{Bool}
use mathlib.Core.List.{List}
use mathlib.Core.Path.{◌≡◌, refl, ◌∙◌, sym, ap, subst}
use lib.ListN.{length, get_or}
use Rattle.base.specs.Layout.{on}
use Rattle.base.proofs.Painting.{painted-all, painted_cong}
use Rattle.picture.specs.declared.Look.{Look}
use Rattle.controller.specs.declared.Region.{Region}
use Rattle.controller.specs.declared.Region.TheVariants.{Nothing, Whole, GlyphHalf, GraphicHalf}
use Rattle.controller.specs.Memories.{Memories, half, word_place}
use Rattle.controller.specs.Named.{shows_glyph, shows_graphic, covers}
use Rattle.picture.specs.Picture.{Fonts, byte_over, byte_at, wide, picture}
use Rattle.picture.proofs.Unread.{glyph-shown}
use Rattle.repaint.specs.Repaint.{named, repainted, count_named, painting, paints_on, repaint, shows_place, most_of}
use Rattle.repaint.proofs.Counts.{count-whole, count_most}
use Rattle.repaint.proofs.Records.{painting-both, painting-count}
use Rattle.repaint.proofs.Paintings.{paints-none}

module _ (e : Fonts) (m : Memories) (look : Look) (f : List ℕ) where
  pub nothing-painted : length f ≡ 1024 → painting 0 f ≡ repaint wide e m look Nothing f
  unfolding repainted count_named named covers
  nothing-painted size = paints-none 1024 (on wide (covers look.view m.text Nothing)) (on wide (byte_at e m look)) f size (λ i h. refl)

  pub whole-painted : (g : List ℕ) → length f ≡ 1024 → g ≡ picture wide e m look → painting 1024 g ≡ repaint wide e m look Whole f
  unfolding repainted count_named named covers picture
  whole-painted g size h =
      painting-both (sym (count-whole look.view m.text))
      (h ∙ sym (painted-all (on wide (covers look.view m.text Whole)) (on wide (byte_at e m look)) 1024 f size (λ i l. refl)))

  -- each byte that shows a half of a glyph word has its dots
  pub glyph-painted : (word : ℕ) (low : Bool)
      → paints_on wide (shows_glyph look.view m.text word low) (byte_over (get_or m.glyph (word_place word low) 0) m.graphic look) f
      ≡ repaint wide e m look (GlyphHalf word low) f
  unfolding repainted count_named named covers byte_at
  glyph-painted word low =
      painting-both refl
      (painted_cong _ _ _ _ f (λ i l. refl)
      (λ i l t. ap (λ (dots : ℕ). byte_over dots m.graphic look (i / 32) (i % 32)) (sym (glyph-shown e m look.view (i / 32) (i % 32) word low t))))

  pub graphic-painted : (y k at : ℕ) (low : Bool) → at ≡ 2 * k + half low
      → paints_on wide (shows_place look.view y at) (byte_at e m look) f ≡ repaint wide e m look (GraphicHalf y k low) f
  unfolding repainted count_named named covers shows_graphic
  graphic-painted y k at low h = rw h

-- a region painted is counted at its most
pub at_its_most :
    (e : Fonts) (m : Memories) (look : Look) (f g : List ℕ) (n : ℕ) (region : Region)
    → painting n g ≡ repaint wide e m look region f
    → (painting n g ≡ repaint wide e m look region f) × (n ≤ most_of region)
at_its_most e m look f g n region h = (h, subst (λ (k : ℕ). k ≤ most_of region) (sym (painting-count h)) (count_most look.view m.text region))
