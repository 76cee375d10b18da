-- The listing's columns in ASCII: "fields parted by tabs".
use Rattle.std.specs.Prelude.{ℕ, List, [], ◌∷◌, ◌++◌}

abbrev tab : ℕ
tab = 9

abbrev line_feed : ℕ
line_feed = 10

-- "no", "command", "status", "error"
abbrev pub heading : List ℕ
heading =
    110 ∷ 111 ∷ tab
    ∷ 99 ∷ 111 ∷ 109 ∷ 109 ∷ 97 ∷ 110 ∷ 100 ∷ tab
    ∷ 115 ∷ 116 ∷ 97 ∷ 116 ∷ 117 ∷ 115 ∷ tab
    ∷ 101 ∷ 114 ∷ 114 ∷ 111 ∷ 114 ∷ line_feed ∷ []

-- what stands behind a line's number: command, status, and error or reason, each after a tab, and the line's end
abbrev pub fields_of : List ℕ → List ℕ → List ℕ → List ℕ
fields_of command status error = (tab ∷ command) ++ ((tab ∷ status) ++ ((tab ∷ error) ++ (line_feed ∷ [])))

-- "--"
abbrev pub dashes : List ℕ
dashes = 45 ∷ 45 ∷ []
