-- The promise of each function that another crate can call settles its calls: any two answers that it allows, with what is then in the lent
-- buffers, are equal. Assumes nothing.
use mathlib.Core.Path.{refl}
use mathlib.Core.List.{List}
use Prim.Native.Nat.{ℕ}
use contract.Lifetimes.{Lfts}
use borrow.Fn.Kinds.{Dens}
use Rattle.numbers.specs.Settled.{Settles, settled}
use Rattle.numbers.specs.Bits.{spread, merge}
use Rattle.ports.specs.Ports.{entry, fog_cells, fog_entries, light_cells, light_entries}
use Rattle.ports.specs.Uploads.{fog_cells_after, fog_uploaded, light_cells_after, light_uploaded}
use Rattle.ports.proofs.spread_mask.Reads as spread_mask_reads
use Rattle.ports.proofs.spread_mask.Kinds as spread_mask_kinds
use Rattle.ports.proofs.merged.Reads as merged_reads
use Rattle.ports.proofs.merged.Kinds as merged_kinds
use Rattle.ports.proofs.entered.Reads as entered_reads
use Rattle.ports.proofs.entered.Kinds as entered_kinds
use Rattle.ports.proofs.put_fog.Reads as put_fog_reads
use Rattle.ports.proofs.put_fog.Kinds as put_fog_kinds
use Rattle.ports.proofs.put_light.Reads as put_light_reads
use Rattle.ports.proofs.put_light.Kinds as put_light_kinds
use Rattle.ports.proofs.upload_fog.Reads as upload_fog_reads
use Rattle.ports.proofs.upload_fog.Kinds as upload_fog_kinds
use Rattle.ports.proofs.upload_light.Reads as upload_light_reads
use Rattle.ports.proofs.upload_light.Kinds as upload_light_kinds

pub spread_mask_settled : (κs : Lfts 0) (a : Dens κs spread_mask_kinds.ps) → Settles (λ e. tt {0}) (spread_mask_reads.Post κs a)
spread_mask_settled κs a = settled _ _ (λ r. r) (λ r r' e. e) (spread a.0) tt (λ r e p. (p, refl))

pub merged_settled : (κs : Lfts 0) (a : Dens κs merged_kinds.ps) → Settles (λ e. tt {0}) (merged_reads.Post κs a)
merged_settled κs a = settled _ _ (λ r. r) (λ r r' e. e) (merge a.0 a.1.0 a.1.1.0) tt (λ r e p. (p, refl))

pub entered_settled : (κs : Lfts 0) (a : Dens κs entered_kinds.ps) → Settles (λ e. tt {0}) (entered_reads.Post κs a)
entered_settled κs a = settled _ _ (λ r. r) (λ r r' e. e) (entry a.0 a.1.0) tt (λ r e p. (p, refl))

-- the cells, and the entries of the port's table
pub put_fog_settled : (κs : Lfts 2) (a : Dens κs put_fog_kinds.ps)
    → Settles {B = List ℕ × List ℕ} (λ e. (e.0.now, e.1.0.now)) (put_fog_reads.Post κs a)
put_fog_settled κs a =
    settled _ _ (λ r. r) (λ r r' e. e) tt (fog_cells a.0.now, fog_entries a.0.now a.1.0.now a.1.1.0)
    (λ r e p. (refl, rw (p.0, p.1)))

pub put_light_settled : (κs : Lfts 2) (a : Dens κs put_light_kinds.ps)
    → Settles {B = List ℕ × List ℕ} (λ e. (e.0.now, e.1.0.now)) (put_light_reads.Post κs a)
put_light_settled κs a =
    settled _ _ (λ r. r) (λ r r' e. e) tt (light_cells a.0.now, light_entries a.0.now a.1.0.now a.1.1.0)
    (λ r e p. (refl, rw (p.0, p.1)))

pub upload_fog_settled : (κs : Lfts 3) (a : Dens κs upload_fog_kinds.ps)
    → Settles {B = List ℕ × List ℕ} (λ e. (e.0.now, e.1.0.now)) (upload_fog_reads.Post κs a)
upload_fog_settled κs a =
    let l = a.1.1.0.now in
    let j = a.1.1.1.0 in
    let n = a.1.1.1.1.0 in
    settled _ _ (λ r. r) (λ r r' e. e) tt (fog_cells_after a.0.now n, fog_uploaded a.0.now a.1.0.now l j n)
    (λ r e p. (refl, rw (p.0, p.1)))

pub upload_light_settled : (κs : Lfts 3) (a : Dens κs upload_light_kinds.ps)
    → Settles {B = List ℕ × List ℕ} (λ e. (e.0.now, e.1.0.now)) (upload_light_reads.Post κs a)
upload_light_settled κs a =
    let l = a.1.1.0.now in
    let j = a.1.1.1.0 in
    let n = a.1.1.1.1.0 in
    settled _ _ (λ r. r) (λ r r' e. e) tt (light_cells_after a.0.now n, light_uploaded a.0.now a.1.0.now l j n)
    (λ r e p. (refl, rw (p.0, p.1)))
