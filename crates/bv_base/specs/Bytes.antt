-- Lists of bytes. This project's own.
use Rattle.std.specs.Prelude.{ℕ, List, replicate}

-- n bytes of 0. It stays closed, so that no proof counts through a memory.
unfoldable pub zeros : ℕ → List ℕ
zeros n = replicate n 0

-- n times the same byte. It stays closed too.
unfoldable pub repeated : ℕ → ℕ → List ℕ
repeated n byte = replicate n byte
