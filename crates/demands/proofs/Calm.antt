-- Without time a transfer that acts is carried out, and that is all.
use Prim.Native.Nat.{ℕ}
use mathlib.Core.Path.{◌≡◌, refl, sym, ap, ◌∙◌}
use Rattle.controller.specs.declared.Time.{Time}
use Rattle.controller.specs.declared.Control.{Control}
use Rattle.controller.specs.Memories.{Memories}
use Rattle.controller.specs.Instructions.{with_time}
use Rattle.time.specs.Time.{cost, charged}
use Rattle.deeds.specs.Transfers.{Acted, acted, carried_out, on_time}
use Rattle.deeds.proofs.Untimed.{carried_out_time, never-lost, unlost_acted}
use Rattle.events.specs.declared.Transfer.{Transfer}
use Rattle.demands.specs.Wires.{no_time}

pub calm : (m : Memories) (c : Control) (t : Transfer) → on_time m (with_time no_time c) t ≡ carried_out m (with_time no_time c) t
calm m c t =
    let out : Acted = carried_out m (with_time no_time c) t in
    let n : ℕ = cost (with_time no_time c) t in
    let at : Time → Acted = λ z. acted out.memories (record { control = with_time z out.done.control; reply = out.done.reply; region = out.done.region }) in
    unlost_acted m (with_time no_time c) t (never-lost (with_time no_time c) t refl)
    ∙ ap (λ (z : Time). at (charged n z)) (carried_out_time m (with_time no_time c) t)
    ∙ sym (ap at (carried_out_time m (with_time no_time c) t))
