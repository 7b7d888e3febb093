-- What the forms of a push stand for.
use Rattle.std.specs.Prelude.{[], ◌∷◌, ◌++◌, length}
use Rattle.std.specs.Int.{w16, w32, to_le_bytes}
use Rattle.def_script.specs.Bytes.{Bytes}
use Rattle.ms_script.specs.declared.pushes.PushForm.{PushForm}
use Rattle.ms_script.specs.declared.pushes.PushForm.TheVariants as form

-- the spelling of a push of these bytes in a form
abbrev pub spelled_by : PushForm → Bytes → Bytes
spelled_by (form.Number byte) bytes = byte ∷ []
spelled_by (form.Direct n) bytes = n ∷ bytes
spelled_by (form.Data1 n) bytes = 0x4c ∷ n ∷ bytes
spelled_by (form.Data2 n) bytes = 0x4d ∷ to_le_bytes w16 n ++ bytes
spelled_by form.Data4 bytes = 0x4e ∷ to_le_bytes w32 (length bytes) ++ bytes
