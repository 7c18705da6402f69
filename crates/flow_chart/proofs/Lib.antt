mod SketchSizes
