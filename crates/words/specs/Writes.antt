-- A single write, and when it is allowed: said twice, as the document does, and law `allowed_fault` has the two agree. A mask above 15
-- can't stand in a header; where it is given as a number, it is refused with 9 before these tests.
use Rattle.std.specs.Prelude.{Bool, not, ◌&&◌, ◌||◌, List, [], ◌∷◌, map, ℕ, leb, ltb, eqb}
use Rattle.numbers.specs.Pick.{pick, within}

pub record Write : Type 0 where
  pub id : ℕ
  pub mask : ℕ
  pub value : ℕ

abbrev pub writing : ℕ → ℕ → ℕ → Write
writing i m v = record { id = i; mask = m; value = v }

-- a run without its writes of mask 0: these are checked like any others, but belong to no expansion
unfoldable pub kept : List Write → List Write
kept [] = []
kept (w ∷ ws) = let rest = kept ws in pick (eqb w.mask 0) rest (w ∷ rest)

-- a run of writes as three rows: its ids, its masks, its values
abbrev pub ids_in : List Write → List ℕ
ids_in ws = map (λ (w : Write). w.id) ws

abbrev pub masks_in : List Write → List ℕ
masks_in ws = map (λ (w : Write). w.mask) ws

abbrev pub values_in : List Write → List ℕ
values_in ws = map (λ (w : Write). w.value) ws

-- the jump registers
abbrev pub jumps : ℕ → Bool
jumps i = eqb i 0x23C || eqb i 0x23D

-- the data ids of the two ports
abbrev pub fog_data : ℕ → Bool
fog_data i = within 0xE8 0xEF i

abbrev pub light_data : ℕ → Bool
light_data i = within 0x1C8 0x1CF i

abbrev pub port_data : ℕ → Bool
port_data i = fog_data i || light_data i

-- a write is allowed if its id is 000h..2FFh, isn't a jump register, and, for a port's data id, its mask is Fh
abbrev pub allowed : ℕ → ℕ → Bool
allowed i m = leb i 0x2FF && not (jumps i) && (not (port_data i) || eqb m 15)

-- the number of a write's fault, 0 for none: 3 id above 2FFh, 4 a jump register, 5 port data with a mask other than Fh
unfoldable pub fault_of : ℕ → ℕ → ℕ
fault_of i m = pick (ltb 0x2FF i) 3 (pick (jumps i) 4 (pick (port_data i && not (eqb m 15)) 5 0))
