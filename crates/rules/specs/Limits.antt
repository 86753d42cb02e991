-- The widths and largest counts, each named once.
use Rattle.std.specs.Prelude.{ℕ, ◌*◌}

-- the bytes of a record
abbrev pub record_bytes : ℕ
record_bytes = 16

-- the largest counts: of all records, and of values, blocks, instructions and edges
abbrev pub largest_records : ℕ
largest_records = 2048

abbrev pub largest_values : ℕ
largest_values = 512

abbrev pub largest_blocks : ℕ
largest_blocks = 64

abbrev pub largest_instructions : ℕ
largest_instructions = 1024

abbrev pub largest_edges : ℕ
largest_edges = 256

-- the words of a block's row in a live table, value n at bit n mod 64 of word n / 64
abbrev pub row_words : ℕ
row_words = 8

-- the words of a live table
abbrev pub table_words : ℕ
table_words = row_words * largest_blocks

-- the bytes that the program reads at most, the bytes that it rewrites into, and its pointer size
abbrev pub program_input : ℕ
program_input = 32768

abbrev pub program_output : ℕ
program_output = 65536

abbrev pub program_pointer : ℕ
program_pointer = 8
