-- Document 01, "Links": serial, bit by bit.
use Rattle.std.specs.Prelude.{ℕ, ◌+◌, ◌*◌, ◌%◌, Bool, true, false, ltb, Option, Some, None}
use Rattle.base.specs.Choice.{when◌then◌else◌}
use Rattle.serial.specs.declared.Header.{Header}
use Rattle.serial.specs.declared.Header.TheVariants.{Begun, WithRead, WithRegister}
use Rattle.serial.specs.declared.Sync.{Sync}
use Rattle.serial.specs.declared.Sync.TheVariants.{Lost, Body}
use Rattle.serial.specs.declared.Receiver.{Receiver}
use Rattle.serial.specs.declared.Receiver.TheVariants.{Inside, Outside}
use Rattle.serial.specs.declared.Received.{Received}
use Rattle.serial.specs.declared.Heard.{Heard}

-- five ones in a row always begin a header, outside a header; what was half received is dropped
unfoldable pub counted : ℕ → Bool → Sync → Receiver
counted run false sync = Outside 0 sync
counted run true sync = when ltb run 4 then Outside (run + 1) sync else Inside Begun

-- when all three header bits have come, read = 1 or third bit = 1 loses sync
unfoldable pub after_header : Bool → Bool → Bool → Sync
after_header read register third = when read then Lost else when third then Lost else Body register 0 0

-- three header bits follow: read, register, 0; then the run of ones is at 0
unfoldable pub header_bit : Header → Bool → Receiver
header_bit Begun bit = Inside (WithRead bit)
header_bit (WithRead read) bit = Inside (WithRegister read bit)
header_bit (WithRegister read register) bit = Outside 0 (after_header read register bit)

-- then groups of eight, four data bits and four zeros: whether the next bit is a data bit
abbrev pub data_next : ℕ → Bool
data_next seen = ltb (seen % 8) 4

-- a data bit comes in at the low end
abbrev pub pushed : ℕ → Bool → ℕ
pushed byte bit = byte % 128 * 2 + (when bit then 1 else 0)

-- two groups make a byte: whether the next bit is before its last
abbrev pub before_last : ℕ → Bool
before_last seen = ltb seen 15

-- a one among the zeros loses sync; more bytes may follow one header
unfoldable pub body_bit : Sync → Bool → Sync
body_bit Lost bit = Lost
body_bit (Body register seen byte) bit =
    when data_next seen then Body register (seen + 1) (pushed byte bit)
    else when bit then Lost
    else when before_last seen then Body register (seen + 1) byte
    else Body register 0 0

-- a byte to a register
abbrev pub byte_to : Bool → ℕ → Received
byte_to register byte = record { register = register; byte = byte }

-- what a bit completes: a byte, acting on the last zero
unfoldable pub completed : Sync → Bool → Option Received
completed sync true = None
completed Lost false = None
completed (Body register seen byte) false =
    when data_next seen then None
    else when before_last seen then None
    else Some (byte_to register byte)

-- one bit, with chip select high; a fifth one begins a header, also where it would lose sync
unfoldable pub heard : Receiver → Bool → Heard
heard (Inside header) bit = record { receiver = header_bit header bit; received = None }
heard (Outside run sync) bit = record { receiver = counted run bit (body_bit sync bit); received = completed sync bit }

-- idle: out of sync, and no run of ones
abbrev pub idle_receiver : Receiver
idle_receiver = Outside 0 Lost

-- chip select low loses sync and clears the run
abbrev pub after_select_low : Receiver → Receiver
after_select_low receiver = idle_receiver
