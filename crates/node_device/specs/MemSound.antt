-- What holds of every device in memory.
use Rattle.std.specs.Prelude.{IsSome, ◌≡◌, true, List, [], ◌∷◌, ℕ, Bool, false, refl, length}
use Rattle.std.specs.Option.{option_map}
use Rattle.std.specs.Str.{bytes_eq}
use Rattle.std.proofs.Common.{cond, inl, inr, subst}
use Rattle.node_device.specs.File.{File, MayLeave}
use Rattle.node_device.specs.DeviceState.{IsSound, IsDeviceName}
use Rattle.node_device.specs.Entry.{entry_file, entry_name}
use Rattle.node_device.specs.Entries.{file_at}
use Rattle.node_device.specs.declared.entry.Entry.{Entry}
use Rattle.node_device.specs.MemState.{mem_state}
use Rattle.node_device.specs.declared.mem.MemDevice.{MemDevice}
use Rattle.node_device.specs.HeldFiles.{now_allowed, stable_allowed}
use Rattle.node_device.specs.EntryLists.{listed, names_ascending, same_name_or_not}

either : (P : File → Type 0) (b : Bool) {f g : File} → P f → P g → P (cond b f g)
either P true p q = p
either P false p q = q

-- what holds of nothing and of the file of each entry holds under each name
pub file_at_all : (P : File → Type 0) → P (file_at [] []) → ((e : Entry) → P (entry_file e)) → (es : List Entry) (q : List ℕ) → P (file_at es q)
file_at_all P none each [] q = none
file_at_all P none each (e ∷ es) q = either P (bytes_eq (entry_name e) q) (each e) (file_at_all P none each es q)

-- a file has a device name
named : (es : List Entry) (q : List ℕ) → IsSome (file_at es q).len → IsDeviceName q
named [] q some = absurd (cc some)
named (e ∷ es) q some = elim (same_name_or_not (entry_name e) q) [
  | inl same ↦ subst (λ (n : List ℕ). IsDeviceName n) same.1 e.named
  | inr other ↦ named es q (subst (λ (b : Bool). IsSome (cond b (entry_file e) (file_at es q)).len) other.0 some)
]

pub mem_sound : (d : MemDevice) → IsSound (mem_state d)
mem_sound d = record {
  ascending = names_ascending d.entries.items d.ascending;
  listed = listed d.entries.items d.ascending;
  named = named d.entries.items;
  fits = d.fits;
  lengths = λ tells q. file_at_all (λ f. f.len ≡ option_map length f.now) refl (λ e. refl) d.entries.items q;
  stable_allowed = λ q. file_at_all (λ f. MayLeave f f.stable) (inr refl) (λ e. stable_allowed e.there e.was_there e.fluid e.bytes.items e.kept.items e.stable_len e.greatest e.changes e.sound) d.entries.items q;
  now_allowed = λ q. file_at_all (λ f. MayLeave f f.now) (inr refl) (λ e. now_allowed e.there e.was_there e.fluid e.bytes.items e.kept.items e.stable_len e.greatest e.changes e.sound) d.entries.items q;
}
