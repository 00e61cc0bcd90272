-- The room that a log is read into, part by part: so many bytes at its start are in use, all of it where it has fewer.
use Rattle.std.specs.Prelude.{List, ◌++◌, ℕ, length, take, drop}

-- What is left of the bytes in use, after so many of them were read.
abbrev pub left_of : ℕ → ℕ → List ℕ → List ℕ
left_of have read room = drop read (take have room)

-- It stands at the room's start afterwards, and every byte after it is as it was.
abbrev pub moved_up : ℕ → ℕ → List ℕ → List ℕ
moved_up have read room = left_of have read room ++ drop (length (left_of have read room)) room
