-- what stands at the head of a picture
use Rattle.std.specs.Prelude.{ℕ, Bool, true, false, List, [], ◌++◌, codes}
use Rattle.view_chart.specs.declared.model.Window.{Window}
use Rattle.view_chart.specs.Pieces.{two}

-- the size of a picture, and where it begins
unfoldable pub frame_text : (width height : ℕ) → List ℕ
frame_text width height =
    two (codes " width=\"") width (codes "ex\" height=\"") height
    ++ two (codes "ex\" viewBox=\"-10 -4 ") width (codes " ") height

-- what begins a picture of this size
unfoldable pub size_text : (width height : ℕ) → List ℕ
size_text width height =
    codes "<svg xmlns=\"http://www.w3.org/2000/svg\" role=\"img\""
    ++ (frame_text width height ++ codes "\">\n")

-- what the numbers of notes are, in words, if there are notes
abbrev pub numbers_text : (covers : Bool) → List ℕ
numbers_text true =
    codes " A number below a CPU that sleeps: the CPU that answers for its timers."
numbers_text false = []

-- what a picture shows, in words
unfoldable pub summary_text : (covers : Bool) → List ℕ
summary_text covers =
    codes "</title>\n<desc>A row for each CPU, time from left to right, long rests folded. "
    ++ (codes "Thick bar: awake; thin line: asleep; dots: offline. "
    ++ (codes "An arrow goes from a timer's home, with a dot, to the CPU that ran it."
    ++ (numbers_text covers ++ codes "</desc>\n")))

-- how bars, arrows and notes look: on a light page, and on a dark one
unfoldable pub style_text : List ℕ
style_text =
    codes "<style>text{font:1.4px sans-serif;fill:#222}.c{text-anchor:end}"
    ++ (codes "path{fill:none;stroke:#444}.a{stroke-width:.8;stroke:#999}.s{stroke-width:.15}"
    ++ ((codes ".o{stroke-width:.15;stroke-dasharray:.2 .6}.n text{font-size:1.2px}"
    ++ codes ".r,.w{stroke-width:.2;stroke:#000;marker-end:url(#h)}.r{marker-start:url(#d)}")
    ++ (codes ".h{fill:#000;stroke:none}@media(prefers-color-scheme:dark){text{fill:#ddd}"
    ++ codes "path{stroke:#aaa}.a{stroke:#777}.r,.w{stroke:#fff}.h{fill:#fff}}</style>\n")))

-- the head of an arrow, and the dot at its tail
unfoldable pub head_of_arrow : List ℕ
head_of_arrow =
    (codes "<marker id=\"h\" orient=\"auto\" refX=\"3\" refY=\"2\" "
    ++ codes "markerWidth=\"4\" markerHeight=\"4\">")
    ++ (codes "<path class=\"h\" d=\"M0 0L4 2L0 4z\"/></marker>\n"
    ++ (codes "<marker id=\"d\" refX=\"2\" refY=\"2\" markerWidth=\"4\" markerHeight=\"4\">"
    ++ codes "<circle class=\"h\" cx=\"2\" cy=\"2\" r=\"1.6\"/></marker>\n"))

-- the title of a picture, what it shows, and how bars, arrows and notes look
unfoldable pub title_text : Window → (covers : Bool) → List ℕ
title_text w covers =
    two (codes "<title>Timers and CPUs, jiffies ") w.from (codes " to ") w.to
    ++ (summary_text covers ++ (style_text ++ head_of_arrow))
