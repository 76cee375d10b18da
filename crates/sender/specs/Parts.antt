-- What the private parts of a call ask of each other.
use Rattle.std.specs.Prelude.{◌≡◌, List, ℕ, ◌+◌, ◌≤◌, ◌<◌, length}
use Rattle.esp_begin.specs.Count.{count_of}
use Rattle.esp_begin.specs.declared.Begin.{Begin}

-- a BEGIN that announces the image, and a block k of it
pub record HasBlock (g : Begin) (k : ℕ) (image : List ℕ) : Type 0 where
  pub whole : g.size ≡ length image
  pub rounded : g.count ≡ count_of g.size g.block
  pub least : 1 ≤ g.block
  pub most : g.block ≤ 4096
  pub among : k < g.count

-- a BEGIN that announces the image, and the number of one of its packets
pub record HasPacket (g : Begin) (number : ℕ) (image : List ℕ) : Type 0 where
  pub whole : g.size ≡ length image
  pub rounded : g.count ≡ count_of g.size g.block
  pub least : 1 ≤ g.block
  pub most : g.block ≤ 4096
  pub among : number < g.count + 3
